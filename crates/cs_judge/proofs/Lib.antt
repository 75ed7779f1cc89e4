pub mod Outcomes
pub mod Starts
pub mod Called
