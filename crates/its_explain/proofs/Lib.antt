mod Chosen
mod Counts
mod Keys
mod Lent
mod NextCommand
mod Since
mod Steps
mod Texts
