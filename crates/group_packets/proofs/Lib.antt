pub mod PartBytes
pub mod ReadBack
