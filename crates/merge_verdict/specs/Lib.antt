-- Believed: Verdict, Pairs, Clocks, Own.
-- Laws: Steps, Chains, Kept.
pub mod Verdict
pub mod Pairs
pub mod Clocks
pub mod Own
pub mod Steps
pub mod Chains
pub mod Kept
