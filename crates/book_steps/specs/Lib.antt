pub mod Entries
pub mod OwnAcks
pub mod TextEntries
