-- Believed: Sized.
-- Laws: Rows, Same, Held, InOrder, Passes, Exact.
pub mod Rows
pub mod Sized
pub mod Same
pub mod Held
pub mod InOrder
pub mod Passes
pub mod Exact
