pub mod Backlogs
pub mod Both
pub mod Keeping
pub mod Seen
pub mod Splits
