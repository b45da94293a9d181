pub mod HeldBooks
pub mod Kept
pub mod Serving
