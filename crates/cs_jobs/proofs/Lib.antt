pub mod Asked
pub mod JobNames
pub mod Untils
