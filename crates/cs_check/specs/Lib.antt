pub mod Case
pub mod Checked
pub mod ClassDays
pub mod Stretches
