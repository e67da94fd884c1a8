pub mod List
pub mod Answer
