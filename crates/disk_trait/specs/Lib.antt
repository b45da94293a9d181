pub mod Disk
pub mod Failures
pub mod FileDisk
pub mod Images
pub mod LockedFile
pub mod MemDisk
pub mod Moments
pub mod Replay
