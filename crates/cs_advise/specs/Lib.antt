pub mod Names
pub mod Room
pub mod Replaced
pub mod Edit
pub mod Change
pub mod Advice
pub mod Answer
pub mod Changed
