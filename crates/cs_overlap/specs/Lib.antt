pub mod Found
pub mod Roles
pub mod Split
pub mod Sums
