pub mod Storing
pub mod Telling
pub mod Closing
pub mod Updating
pub mod Callers
