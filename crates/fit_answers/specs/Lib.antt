pub mod ToldText
pub mod Reached
pub mod FitSays
