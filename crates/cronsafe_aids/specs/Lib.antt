pub mod Call
pub mod Turn
pub mod Run
