pub mod Xors
pub mod Blocks
pub mod Opening
