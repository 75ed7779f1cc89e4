pub mod Calendar
pub mod Order
pub mod Text
pub mod Faults
pub mod Hours
