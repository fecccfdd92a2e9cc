pub mod Redistributors
pub mod Registers
