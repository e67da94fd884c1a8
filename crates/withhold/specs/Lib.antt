pub mod Answer
pub mod Call
pub mod Input
pub mod Output
