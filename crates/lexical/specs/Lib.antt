pub mod Text
pub mod Byte
pub mod Class
pub mod Name
pub mod Line
pub mod Point
pub mod Buffer
pub mod Rows
