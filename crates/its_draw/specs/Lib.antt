pub mod Marks
pub mod Places
pub mod Elements
pub mod Calls
pub mod Rest
pub mod Svg
pub mod Replays
pub mod Draws
