pub mod Alone
mod TwoParts
