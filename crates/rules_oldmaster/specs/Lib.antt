-- Believed: KeptOut.
-- Definitions: Change, Invariant.
-- Laws: Growing, Mistakes.
pub mod KeptOut
pub mod Change
pub mod Invariant
pub mod Growing
pub mod Mistakes
