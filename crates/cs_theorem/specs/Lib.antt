pub mod Nightly
pub mod Windows
pub mod Certificate
pub mod Accepted
pub mod Faults
pub mod Example
pub mod Ending
pub mod Told
