pub mod Steps
pub mod Restored
pub mod Begun
pub mod Whole
