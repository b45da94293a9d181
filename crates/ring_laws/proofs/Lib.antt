pub mod Turning
pub mod Polynomials
pub mod Small
pub mod Inverses
