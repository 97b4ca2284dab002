-- Believed: Shown.
-- Laws: Showing.
pub mod Shown
pub mod Showing
