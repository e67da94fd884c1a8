pub mod Answer
pub mod Both
pub mod Found
