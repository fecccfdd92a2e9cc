pub mod Enabling
pub mod Laws
