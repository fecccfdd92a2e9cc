pub mod Founds
pub mod Choices
pub mod Sets
pub mod Lawful
pub mod OnlyGiven
