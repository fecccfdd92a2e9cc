pub mod Searches
pub mod Bounds
pub mod Configurations
pub mod Conf
