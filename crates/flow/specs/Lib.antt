pub mod Place
pub mod Answer
pub mod CompleteMachine
pub mod OpenMachine
pub mod ContinuationMachine
pub mod BlockMachine
