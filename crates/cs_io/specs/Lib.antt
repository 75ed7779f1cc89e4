pub mod Files
pub mod Folders
pub mod Reasons
