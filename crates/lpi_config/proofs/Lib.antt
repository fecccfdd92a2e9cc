pub mod Sizes
pub mod Chunks
pub mod LowestBits
pub mod LeastIn
pub mod LeastPriorities
