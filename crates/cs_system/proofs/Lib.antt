pub mod Entries
pub mod Failures
pub mod Tables
