pub mod Answer
pub mod Writing
pub mod Walk
pub mod Marking
