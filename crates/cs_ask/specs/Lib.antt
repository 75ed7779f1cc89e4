pub mod Applying
pub mod Asking
pub mod Stopping
pub mod Reloading
pub mod Telling
