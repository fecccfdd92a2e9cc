pub mod Ready
pub mod Legs
