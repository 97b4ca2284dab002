-- Definitions: Tests.
-- Laws: Places, First, Masterships, Queues, Rows, Agree.
pub mod Tests
pub mod Places
pub mod First
pub mod Masterships
pub mod Queues
pub mod Rows
pub mod Agree
