-- Laws: Concatenation, Seeing.
pub mod Concatenation
pub mod Seeing
