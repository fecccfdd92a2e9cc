pub mod Asks
pub mod Jobs
pub mod Legs
pub mod Phases
pub mod Rests
pub mod Roots
pub mod Scripts
