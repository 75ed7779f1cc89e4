pub mod Meeting
pub mod Verdict
pub mod Answer
