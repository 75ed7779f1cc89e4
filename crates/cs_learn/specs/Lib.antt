pub mod Max
pub mod Learned
pub mod Answer
