pub mod Closed
pub mod Entry
pub mod Invariant
pub mod Keeping
pub mod Seat
pub mod FirstToGet
pub mod Tick
