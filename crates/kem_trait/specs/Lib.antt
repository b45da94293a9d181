pub mod Encapsulated
pub mod Lengths
pub mod Streams
pub mod Words
