-- Definitions: Asks, Does, Handled.
pub mod Asks
pub mod Does
pub mod Handled
