pub mod Counts
pub mod Comings
pub mod Collecting
pub mod Shapes
pub mod Turning
