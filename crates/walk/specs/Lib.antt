pub mod Closer
pub mod Remaining
pub mod Yields
