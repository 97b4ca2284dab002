-- Believed: Limits, Codes, State, Queues, Ids, Election, Range, Part, Parts, Rules, Step, Run, Open.
pub mod Limits
pub mod Codes
pub mod State
pub mod Queues
pub mod Ids
pub mod Election
pub mod Range
pub mod Part
pub mod Parts
pub mod Rules
pub mod Step
pub mod Run
pub mod Open
