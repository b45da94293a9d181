pub mod Welcomes
pub mod Joining
