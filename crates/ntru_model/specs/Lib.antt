pub mod Parameters
pub mod Search
pub mod Residues
pub mod Draws
pub mod Encodings
pub mod Pairs
pub mod Encapsulation
