pub mod Streams
pub mod Moves
pub mod Played
pub mod Summarized
pub mod Its
pub mod Answered
pub mod Opened
