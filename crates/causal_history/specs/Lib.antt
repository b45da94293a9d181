pub mod Bits
pub mod Spelled
pub mod Rows
pub mod Numbered
pub mod Followed
pub mod Keeping
pub mod Room
