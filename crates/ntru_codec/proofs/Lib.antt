pub mod Bytes
pub mod Lists
pub mod Pairs
pub mod Rounds
pub mod Coding
pub mod Sizes
pub mod Codes
pub mod Giving
