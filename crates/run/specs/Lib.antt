-- Believed: Ran.
-- Laws: Refusing, Advances, Running, Whole.
pub mod Ran
pub mod Refusing
pub mod Advances
pub mod Running
pub mod Whole
