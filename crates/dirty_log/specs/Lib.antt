pub mod Pages
pub mod Listing
pub mod Copies
pub mod Bits
pub mod Stretches
