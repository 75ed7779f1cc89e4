pub mod OddLemmas
