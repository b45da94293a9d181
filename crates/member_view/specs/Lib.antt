pub mod Causes
pub mod Acts
pub mod Authors
pub mod Crowds
pub mod Waiting
pub mod Rules
