-- Believed: Hold, Answers.
-- Definitions: Kinds, Queues.
-- Laws: Refusals, Ordered, Places.
pub mod Hold
pub mod Kinds
pub mod Answers
pub mod Queues
pub mod Refusals
pub mod Ordered
pub mod Places
