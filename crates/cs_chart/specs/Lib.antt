pub mod Bars
pub mod Chart
pub mod Answer
