-- Believed: RunText.
-- Definitions: Bytes.
pub mod RunText
pub mod Bytes
