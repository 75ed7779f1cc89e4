pub mod Calls
pub mod Peers
pub mod Same
pub mod Service
pub mod Turns
