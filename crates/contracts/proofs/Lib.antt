-- Laws: Only, One, Wrong, Lists, Logs, Messages.
pub mod Only
pub mod One
pub mod Wrong
pub mod Lists
pub mod Logs
pub mod Messages
