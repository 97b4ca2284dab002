-- Laws: Invariant, Steps, OldMaster.
pub mod Invariant
pub mod Steps
pub mod OldMaster
