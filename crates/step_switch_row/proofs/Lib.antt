pub mod Writing
pub mod Callers
