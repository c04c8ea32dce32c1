pub mod Causal
pub mod MarkedOnce
pub mod Ordered
pub mod Passed
pub mod Untaken
