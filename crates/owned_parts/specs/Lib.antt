pub mod Owned
pub mod RedistSets
pub mod Places
