pub mod Kept
pub mod Commands
pub mod Writes
pub mod Calls
pub mod Runs
pub mod Start
