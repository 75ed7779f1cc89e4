pub mod Asked
pub mod Count
pub mod Rise
pub mod Telling
