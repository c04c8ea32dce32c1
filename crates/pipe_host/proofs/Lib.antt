pub mod Bounds
pub mod HeldLaws
pub mod HostSteps
pub mod RecordLaws
pub mod SendSteps
pub mod StoneLaws
