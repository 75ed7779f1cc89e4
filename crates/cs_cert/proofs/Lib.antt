pub mod Back
pub mod Depths
pub mod RoundTrip
pub mod Trees
pub mod TreesBack
