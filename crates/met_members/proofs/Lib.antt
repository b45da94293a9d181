pub mod Meets
pub mod More
