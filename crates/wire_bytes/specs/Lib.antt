-- Believed: Bytes.
-- Laws: Little, Reporting.
pub mod Bytes
pub mod Little
pub mod Reporting
