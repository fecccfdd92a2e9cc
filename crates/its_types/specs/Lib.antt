pub mod Bits
pub mod Bitmap
pub mod Halves
pub mod Ranges
pub mod Maps
pub mod Lpis
