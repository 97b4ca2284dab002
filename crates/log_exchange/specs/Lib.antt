-- Believed: Exchange.
-- Laws: Moves, Filling, Ran, Passing, Allowed.
pub mod Exchange
pub mod Moves
pub mod Filling
pub mod Ran
pub mod Passing
pub mod Allowed
