pub mod Standing
pub mod Choices
pub mod Steps
