pub mod NodeLists
pub mod Rising
pub mod Parsing
