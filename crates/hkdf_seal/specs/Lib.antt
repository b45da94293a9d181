pub mod Keys
pub mod Macs
pub mod Sealing
