pub mod Gathered
pub mod Gather
pub mod Answer
pub mod Tables
pub mod Listing
