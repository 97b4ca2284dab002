-- Definitions: Row.
-- Laws: Filling, Taking.
pub mod Row
pub mod Filling
pub mod Taking
