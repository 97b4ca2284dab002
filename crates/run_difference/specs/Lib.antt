-- Believed: Difference.
-- Laws: Entries, Alike, Runs.
pub mod Difference
pub mod Entries
pub mod Alike
pub mod Runs
