pub mod Oldest
pub mod Crowds
pub mod Waits
pub mod FaultLaws
pub mod Orders
pub mod KindLaws
pub mod Senders
pub mod ActFacts
