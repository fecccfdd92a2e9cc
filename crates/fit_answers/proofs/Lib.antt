pub mod Times
pub mod ToldLines
pub mod Saying
