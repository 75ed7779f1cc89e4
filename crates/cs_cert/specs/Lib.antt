pub mod Denoted
pub mod Said
pub mod TreeSaid
pub mod Written
