pub mod Rule
pub mod Faults
pub mod Parts
pub mod Clocks
