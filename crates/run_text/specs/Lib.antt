-- Believed: Transcript.
-- Laws: Reading, Filled, Sample.
pub mod Transcript
pub mod Reading
pub mod Filled
pub mod Sample
