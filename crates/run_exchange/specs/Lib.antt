-- Believed: SameRun, Merged.
-- Laws: Exchanges, Buffers.
pub mod SameRun
pub mod Exchanges
pub mod Buffers
pub mod Merged
