pub mod Kept
pub mod Texts
pub mod Report
pub mod Merged
pub mod Histories
pub mod Reports
pub mod Reading
pub mod ReadBack
