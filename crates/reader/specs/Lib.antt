pub mod Moved
pub mod Lent
