pub mod Noted
pub mod PartNames
pub mod Words
