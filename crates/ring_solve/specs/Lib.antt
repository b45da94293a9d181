pub mod Elimination
pub mod Fields
pub mod Solutions
pub mod Steps
