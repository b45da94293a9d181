pub mod HeaderFacts
pub mod Addressed
pub mod Parts
pub mod Drawing
pub mod Seeded
pub mod Answered
pub mod Added
pub mod Forwarded
