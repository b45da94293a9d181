pub mod Making
pub mod Moves
pub mod Taking
