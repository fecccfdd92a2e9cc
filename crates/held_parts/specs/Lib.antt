pub mod Taking
pub mod Once
pub mod Rows
pub mod Redists
pub mod Shards
pub mod Wholes
