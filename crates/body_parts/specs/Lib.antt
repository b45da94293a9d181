pub mod Receivers
pub mod Sending
