-- Definitions: Opened, Calls.
-- Laws: Contract, Only, One, Steps, Wrong, Ranges, Lists, Merges, Logs, Messages.
pub mod Contract
pub mod Opened
pub mod Calls
pub mod Only
pub mod One
pub mod Steps
pub mod Wrong
pub mod Ranges
pub mod Lists
pub mod Merges
pub mod Logs
pub mod Messages
