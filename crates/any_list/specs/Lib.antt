-- Believed: Arrays.
-- Laws: Tests, Columns, Tables, Padded, Queue, Rows, Search.
pub mod Arrays
pub mod Tests
pub mod Columns
pub mod Tables
pub mod Padded
pub mod Queue
pub mod Rows
pub mod Search
