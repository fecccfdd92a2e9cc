pub mod Rising
pub mod Entries
pub mod CollectionEntries
pub mod Pending
pub mod Mapped
pub mod MappedPairs
mod SavedTables
pub mod Memories
pub mod Copying
