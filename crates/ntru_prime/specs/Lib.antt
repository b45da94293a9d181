pub mod Sets
pub mod Keys
pub mod PairKeys
pub mod Lengths
pub mod KeyLaws
