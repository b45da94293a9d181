pub mod Records
pub mod CardLists
pub mod Sizes
