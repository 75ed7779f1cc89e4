pub mod Answer
pub mod Check
pub mod Loads
pub mod Safe
