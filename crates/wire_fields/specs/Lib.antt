-- Believed: Numbers, Fields, Messages.
-- Definitions: Places.
-- Laws: Groups, Joining, Readers, Found, Folding, Walking, Sample.
pub mod Numbers
pub mod Fields
pub mod Messages
pub mod Places
pub mod Groups
pub mod Joining
pub mod Readers
pub mod Found
pub mod Folding
pub mod Walking
pub mod Sample
