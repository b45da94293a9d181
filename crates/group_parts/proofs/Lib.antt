pub mod Tested
pub mod Written
pub mod Spelled
pub mod Lengths
