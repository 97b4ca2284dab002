-- Believed: Asks.
-- Laws: Kinds, Lines.
pub mod Asks
pub mod Kinds
pub mod Lines
