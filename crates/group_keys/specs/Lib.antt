pub mod Primitives
