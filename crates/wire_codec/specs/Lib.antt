pub mod Order
pub mod Packets
pub mod Readings
pub mod Repeated
pub mod Views
