pub mod Mapped
pub mod MappedPairs
pub mod MapLists
pub mod CollectionEntries
pub mod Slots
pub mod Outcome
pub mod Made
pub mod Memories
