-- Definitions: Status.
-- Laws: Within.
pub mod Within
pub mod Status
