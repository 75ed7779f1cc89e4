pub mod Next
pub mod Text
pub mod Answer
