mod Windows
pub mod Sets
pub mod Counts
pub mod Bits
pub mod Bitmaps
pub mod Masks
pub mod Searching
pub mod Bytes
pub mod Firsts
pub mod Moves
pub mod Nexts
pub mod Tables
pub mod FirstOfBoth
pub mod Bests
pub mod FirstOfAll
pub mod AskedBases
pub mod Zeros
pub mod TurnedOn
