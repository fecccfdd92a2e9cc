pub mod Exact
pub mod ExactReplies
pub mod ExactCalls
mod Counted
mod Rising
mod Lines
pub mod NamedCollections
