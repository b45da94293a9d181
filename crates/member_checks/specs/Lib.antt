pub mod Answers
pub mod Facts
pub mod Inputs
pub mod Seats
