pub mod Jumps
pub mod ReplayLemmas
pub mod Starts
pub mod TextLemmas
pub mod Years
