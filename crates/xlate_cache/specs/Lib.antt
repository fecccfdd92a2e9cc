pub mod Pairs
pub mod Ways
pub mod Laws
pub mod Observed
