pub mod Played
pub mod Moves
pub mod Legs
pub mod Answers
