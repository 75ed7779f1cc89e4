pub mod System
pub mod Grammar
pub mod Faults
pub mod Reading
pub mod Seen
pub mod Table
pub mod Printed
