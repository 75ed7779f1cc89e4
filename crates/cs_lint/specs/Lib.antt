pub mod Refused
pub mod Answer
