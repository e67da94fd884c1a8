pub mod TextMachine
pub mod Answer
