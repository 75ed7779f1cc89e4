pub mod Locks
pub mod Timeouts
pub mod Words
