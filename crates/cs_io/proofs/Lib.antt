pub mod ReadLemmas
pub mod OrderLemmas
