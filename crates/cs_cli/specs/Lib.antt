pub mod Judge
pub mod Theorem
