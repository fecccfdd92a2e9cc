pub mod Shows
pub mod Legs
pub mod Said
pub mod Starts
