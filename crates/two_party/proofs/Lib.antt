pub mod Drawing
pub mod Drops
pub mod Exchanges
pub mod NextParts
pub mod Openings
pub mod Places
pub mod Received
pub mod TakenOnce
