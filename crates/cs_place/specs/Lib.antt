pub mod Places
pub mod Mark
pub mod Shown
