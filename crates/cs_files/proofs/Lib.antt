pub mod TroubleLemmas
pub mod TurnLemmas
pub mod AskedLemmas
