pub mod Odd
pub mod Answer
