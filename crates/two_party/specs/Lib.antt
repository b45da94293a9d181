pub mod Drawn
pub mod Exchanges
pub mod Received
