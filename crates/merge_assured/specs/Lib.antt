-- Believed: Assured.
-- Laws: Times, Meaning, Blocked, Sorts, Sample.
pub mod Assured
pub mod Times
pub mod Meaning
pub mod Blocked
pub mod Sorts
pub mod Sample
