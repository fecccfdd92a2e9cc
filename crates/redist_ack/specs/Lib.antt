pub mod Offers
pub mod Both
