pub mod Answers
pub mod Certificate
pub mod Content
pub mod Kept
pub mod Printed
pub mod Rules
