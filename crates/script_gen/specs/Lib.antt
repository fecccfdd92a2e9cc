pub mod Description
pub mod Commands
pub mod Generated
pub mod Laws
pub mod Summary
