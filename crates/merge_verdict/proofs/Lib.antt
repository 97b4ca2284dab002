-- Laws: Exact, Projections, Merging, Passing, Owned.
pub mod Exact
pub mod Projections
pub mod Merging
pub mod Passing
pub mod Owned
