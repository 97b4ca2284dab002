-- Believed: Rows, PairLine.
-- Laws: Times, Places.
pub mod Rows
pub mod PairLine
pub mod Times
pub mod Places
