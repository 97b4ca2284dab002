-- Believed: Words, Report.
-- Laws: Says, Runs.
pub mod Words
pub mod Report
pub mod Says
pub mod Runs
