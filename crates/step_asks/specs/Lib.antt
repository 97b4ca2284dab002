-- Believed: Groups.
-- Laws: Kinds.
pub mod Groups
pub mod Kinds
