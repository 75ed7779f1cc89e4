pub mod Anew
pub mod Failing
pub mod Hooks
pub mod Kept
pub mod Names
pub mod Notes
pub mod Serve
pub mod Served
