pub mod Crash
pub mod Inverts
pub mod Moments
pub mod Overlays
pub mod ReadLemmas
pub mod WriteLemmas
