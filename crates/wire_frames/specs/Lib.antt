-- Believed: Stream, Frames.
-- Laws: Streaming, Framing, Sample.
pub mod Stream
pub mod Frames
pub mod Streaming
pub mod Framing
pub mod Sample
