pub mod Begun
pub mod Repeated
