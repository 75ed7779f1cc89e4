pub mod MaxLemmas
pub mod AnswerLemmas
pub mod ReadingLemmas
