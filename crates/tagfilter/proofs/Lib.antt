pub mod Tags
pub mod Parts
pub mod Replaced
pub mod Piece
pub mod Bound
pub mod Filtering
