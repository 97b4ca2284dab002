-- Believed: Held.
-- Laws: Numbers.
pub mod Held
pub mod Numbers
