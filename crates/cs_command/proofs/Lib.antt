pub mod Found
pub mod Longer
pub mod Parted
pub mod Passed
