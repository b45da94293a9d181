pub mod Ratchets
pub mod Contents
pub mod KeyPairs
pub mod Parts
