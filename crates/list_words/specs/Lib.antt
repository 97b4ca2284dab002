-- Believed: Names, Line.
-- Laws: Naming, Saying.
pub mod Names
pub mod Line
pub mod Naming
pub mod Saying
