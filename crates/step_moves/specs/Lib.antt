-- Definitions: Bodies, Sets.
-- Laws: Gets, Puts, Stored, Acts.
pub mod Bodies
pub mod Sets
pub mod Gets
pub mod Puts
pub mod Stored
pub mod Acts
