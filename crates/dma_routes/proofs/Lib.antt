pub mod Doorbells
