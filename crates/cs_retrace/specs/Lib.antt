pub mod Words
pub mod Order
pub mod Maxes
