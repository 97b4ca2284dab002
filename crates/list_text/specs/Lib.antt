-- Believed: Shown.
-- Laws: Showing, Back.
pub mod Shown
pub mod Showing
pub mod Back
