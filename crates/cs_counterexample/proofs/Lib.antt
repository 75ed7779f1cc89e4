pub mod Safety
pub mod Firsts
pub mod Breaks
pub mod Deadlines
pub mod Takes
pub mod Trials
pub mod Scripts
pub mod Tellable
