pub mod Zone
pub mod Wall
pub mod Starts
pub mod Shape
