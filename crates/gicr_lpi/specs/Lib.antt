pub mod Accesses
pub mod Hands
pub mod Asking
pub mod Writing
pub mod Tries
pub mod Frees
