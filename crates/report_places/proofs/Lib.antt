pub mod Follows
pub mod Reaches
pub mod Lent
pub mod Starts
pub mod Said
pub mod Texts
