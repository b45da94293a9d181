pub mod Mixed
pub mod Small
pub mod Rows
pub mod Round
pub mod Digits
