-- Believed: Places.
-- Laws: Seek, Holds.
pub mod Places
pub mod Seek
pub mod Holds
