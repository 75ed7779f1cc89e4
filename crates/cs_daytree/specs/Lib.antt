pub mod Possible
pub mod Rising
pub mod Tree
