-- Laws: Written, Texts.
pub mod Written
pub mod Texts
