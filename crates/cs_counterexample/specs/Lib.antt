pub mod Break
pub mod FirstBreak
pub mod Shown
pub mod ShownText
pub mod Trial
