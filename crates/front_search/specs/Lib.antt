pub mod Commuting
pub mod Fits
pub mod Fronts
pub mod Moves
pub mod Outcomes
pub mod Sleeping
pub mod Trails
