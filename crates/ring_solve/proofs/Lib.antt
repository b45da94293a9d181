pub mod Residues
pub mod Eliminates
pub mod Solving
pub mod Deciding
pub mod Primes
