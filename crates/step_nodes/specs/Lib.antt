-- Definitions: Waiting.
-- Laws: Rules.
pub mod Waiting
pub mod Rules
