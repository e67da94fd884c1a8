pub mod Fields
pub mod Numbers
pub mod Records
pub mod Walks
pub mod Conversion
pub mod Stores
pub mod Turns
pub mod Refusals
