pub mod Commands
pub mod Making
pub mod Refusing
pub mod Saying
