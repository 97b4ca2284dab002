-- Believed: Line, Log.
-- Laws: Scan, Known, Reads.
pub mod Line
pub mod Scan
pub mod Log
pub mod Known
pub mod Reads
