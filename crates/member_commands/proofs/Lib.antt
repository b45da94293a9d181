pub mod Plain
pub mod Refused
pub mod Next
pub mod Said
pub mod Unsaid
