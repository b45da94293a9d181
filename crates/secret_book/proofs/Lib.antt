pub mod AnswerTables
pub mod KeptTables
pub mod Outcomes
pub mod PlaceTables
pub mod Serving
