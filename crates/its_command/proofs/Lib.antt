pub mod Words
pub mod Meaning
pub mod Encoded
