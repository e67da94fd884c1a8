pub mod Finding
pub mod Answers
pub mod BothRuns
