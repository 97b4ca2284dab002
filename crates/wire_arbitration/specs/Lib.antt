-- Believed: Update, Seen, Arbitration, Merge, Raw.
-- Laws: Choices, Unknown, Seeing, Signed, Sample.
pub mod Update
pub mod Seen
pub mod Arbitration
pub mod Merge
pub mod Choices
pub mod Unknown
pub mod Raw
pub mod Seeing
pub mod Signed
pub mod Sample
