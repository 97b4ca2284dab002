-- Believed: Printout.
-- Laws: Integers, Widths.
pub mod Printout
pub mod Integers
pub mod Widths
