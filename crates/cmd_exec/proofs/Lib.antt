pub mod Opened
pub mod Places
pub mod InHand
pub mod Targets
pub mod Walks
pub mod Order
pub mod Steps
pub mod Lifted
pub mod PlainPlan
pub mod Workable
pub mod Readied
mod Adding
pub mod Executed
pub mod Sets
pub mod Start
pub mod Reloaded
pub mod Left
pub mod Below
