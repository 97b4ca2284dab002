-- Definitions: Asks.
-- Laws: Rules, Removal, Posting, Masterships.
pub mod Asks
pub mod Rules
pub mod Removal
pub mod Posting
pub mod Masterships
