pub mod Stamps
pub mod Words
pub mod Parts
pub mod Entries
pub mod Failures
pub mod Names
pub mod Tables
