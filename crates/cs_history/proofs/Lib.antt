pub mod Lists
pub mod Steps
pub mod Names
pub mod Started
pub mod Journals
