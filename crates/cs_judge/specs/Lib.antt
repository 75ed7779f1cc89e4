pub mod Form
pub mod Judged
pub mod Called
pub mod Answer
