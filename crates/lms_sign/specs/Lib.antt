pub mod Trees
pub mod Signatures
pub mod Nodes
pub mod Leaves
