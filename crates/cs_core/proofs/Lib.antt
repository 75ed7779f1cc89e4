pub mod Order
pub mod Runs
pub mod Counted
pub mod Ends
pub mod Kept
pub mod Stamps
pub mod Members
