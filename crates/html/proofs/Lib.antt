pub mod Turn
pub mod Body
pub mod Blank
pub mod Kept
pub mod TextTags
pub mod TextMeans
