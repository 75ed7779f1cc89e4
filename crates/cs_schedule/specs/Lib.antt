pub mod Numbers
pub mod Part
pub mod Times
pub mod Minutes
pub mod Gap
