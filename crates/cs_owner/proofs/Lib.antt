pub mod Notes
pub mod Tables
pub mod Zip
