pub mod CommandLine
pub mod Table
pub mod Asked
pub mod Question
pub mod Words
pub mod Version
