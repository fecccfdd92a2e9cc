pub mod Answers
pub mod Pairs
pub mod Lpis
pub mod Idle
pub mod Writes
pub mod LpiWrites
