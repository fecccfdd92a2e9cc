mod Taken
mod Moving
mod Pendings
mod Savings
mod Copying
mod Left
pub mod Fresh
mod Once
mod Bare
mod Beside
