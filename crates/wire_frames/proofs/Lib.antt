-- Laws: Streaming.
pub mod Streaming
