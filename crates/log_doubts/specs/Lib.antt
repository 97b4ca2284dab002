-- Believed: Doubts.
-- Laws: Index, Search, Found, Inside, Nothing.
pub mod Doubts
pub mod Index
pub mod Search
pub mod Found
pub mod Inside
pub mod Nothing
