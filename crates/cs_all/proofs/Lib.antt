pub mod Severity
pub mod Each
