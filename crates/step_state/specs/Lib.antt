-- Believed: Hold, Tidy.
-- Definitions: Order, Reads, Stores.
-- Laws: Blank, Unused.
pub mod Hold
pub mod Tidy
pub mod Order
pub mod Reads
pub mod Stores
pub mod Blank
pub mod Unused
