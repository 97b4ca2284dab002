-- Believed: All, Answered.
-- Definitions: Computed, InRange.
-- Laws: Tests, RangeTest, Lists, Ids, Elections, Decide, Boards, KeepsService, KeepsNode, KeepsTelling, KeepsSwitch, Keeps, Answers, Steps, Stored, Runs, Kinds.
pub mod All
pub mod Computed
pub mod InRange
pub mod Answered
pub mod Tests
pub mod RangeTest
pub mod Lists
pub mod Ids
pub mod Elections
pub mod Decide
pub mod Boards
pub mod KeepsService
pub mod KeepsNode
pub mod KeepsTelling
pub mod KeepsSwitch
pub mod Keeps
pub mod Answers
pub mod Steps
pub mod Stored
pub mod Runs
pub mod Kinds
