-- Believed: EventList, Entries, Listed, Reads.
-- Laws: Good, Trails, Refusals, Stores, Written, Sample, Made.
pub mod EventList
pub mod Entries
pub mod Listed
pub mod Reads
pub mod Good
pub mod Trails
pub mod Refusals
pub mod Stores
pub mod Written
pub mod Sample
pub mod Made
