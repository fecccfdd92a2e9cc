pub mod Differences
pub mod Verdicts
pub mod Cursors
pub mod Fields
pub mod Steps
