-- Believed: Public.
-- Laws: Numbers, Settling, Stepping.
pub mod Public
pub mod Numbers
pub mod Settling
pub mod Stepping
