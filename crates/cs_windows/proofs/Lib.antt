pub mod Exact
mod Linked
pub mod Members
pub mod Minutes
pub mod Rising
pub mod Starts
pub mod Touching
pub mod Trees
