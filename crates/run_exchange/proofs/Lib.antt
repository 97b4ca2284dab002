-- Laws: Audit, Merged.
pub mod Audit
pub mod Merged
