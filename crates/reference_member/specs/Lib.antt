pub mod Steps
pub mod Inputs
pub mod Members
pub mod Refusals
pub mod Messages
pub mod Accepted
pub mod Told
pub mod Entering
