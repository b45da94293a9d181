pub mod Calls
pub mod Meetings
pub mod Places
