-- Believed: Write.
-- Laws: Steps, Back.
pub mod Write
pub mod Steps
pub mod Back
