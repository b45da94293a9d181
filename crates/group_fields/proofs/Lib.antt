pub mod CardBytes
pub mod HeaderBytes
pub mod IdBytes
pub mod LayoutLaws
pub mod ReadSteps
pub mod Shifts
pub mod WholeReads
pub mod WriteSteps
