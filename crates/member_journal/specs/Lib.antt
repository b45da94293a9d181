pub mod Append
pub mod Entries
pub mod Fault
pub mod Format
pub mod Front
pub mod Journal
pub mod Room
pub mod Scan
