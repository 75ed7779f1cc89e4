pub mod Names
pub mod LogLines
pub mod Commands
