pub mod Alike
pub mod NearMinutes
pub mod Ranges
pub mod Words
pub mod Hours
pub mod Within
pub mod Apart
