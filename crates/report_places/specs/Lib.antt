pub mod Reached
pub mod Lines
pub mod Lists
pub mod Says
