pub mod Draft
pub mod Answer
