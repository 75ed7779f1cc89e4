pub mod Bytes
pub mod Gives
pub mod Shape
pub mod NoFloat
