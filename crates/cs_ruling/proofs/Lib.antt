pub mod CheckLemmas
pub mod Midnight
pub mod TwoDays
