pub mod Pokes
pub mod Copies
