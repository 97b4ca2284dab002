-- Laws: Keeps, Meaning, Names, Uncrossed.
pub mod Keeps
pub mod Meaning
pub mod Names
pub mod Uncrossed
