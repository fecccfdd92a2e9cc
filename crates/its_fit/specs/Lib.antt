pub mod Commuting
pub mod Explained
pub mod Reaches
pub mod Replays
pub mod Ordered
pub mod Verdicts
