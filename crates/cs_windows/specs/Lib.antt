pub mod Entries
pub mod Links
pub mod Occupied
pub mod Reach
pub mod Tree
pub mod Window
pub mod Windows
