pub mod Response
pub mod Trouble
pub mod Fitting
pub mod Reads
pub mod Turn
pub mod Ending
pub mod Usage
pub mod Asked
