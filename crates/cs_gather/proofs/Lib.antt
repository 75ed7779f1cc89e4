pub mod Between
pub mod Walk
pub mod AnswerLemmas
pub mod ListingLemmas
pub mod PathLemmas
