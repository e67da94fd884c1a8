pub mod Records
pub mod Conversion
pub mod Answer
pub mod Writing
pub mod Rows
