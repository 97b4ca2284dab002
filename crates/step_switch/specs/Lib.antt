-- Definitions: Asks, Does.
pub mod Asks
pub mod Does
