pub mod Zones
pub mod Usable
