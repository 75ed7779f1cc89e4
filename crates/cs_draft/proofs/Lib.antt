pub mod Apart
pub mod Counts
pub mod Joins
pub mod Loops
pub mod AnswerLemmas
