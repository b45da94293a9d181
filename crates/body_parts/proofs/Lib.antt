pub mod Drawing
pub mod Each
pub mod Gathered
pub mod Reaching
pub mod Sent
pub mod Written
