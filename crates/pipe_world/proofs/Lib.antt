pub mod ActsAt
pub mod Decisions
pub mod Messages
pub mod Passing
pub mod StepPuts
pub mod WaitingLists
pub mod WorldSteps
