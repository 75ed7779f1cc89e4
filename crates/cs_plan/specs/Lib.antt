pub mod Plan
pub mod Job
pub mod JobNames
pub mod Plain
pub mod Printed
pub mod Answers
pub mod Reboot
