pub mod Resting
pub mod Precopying
pub mod Saving
pub mod Shared
pub mod Tries
pub mod Beside
