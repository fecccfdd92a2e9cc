pub mod Count
pub mod Bytes
pub mod Script
pub mod Ends
