pub mod Walked
pub mod Found
pub mod Laws
pub mod Rises
