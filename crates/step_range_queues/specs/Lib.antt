-- Definitions: Tests.
-- Laws: Each.
pub mod Tests
pub mod Each
