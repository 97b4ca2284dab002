pub mod Passing
pub mod Answers
pub mod Waiting
pub mod Bits
