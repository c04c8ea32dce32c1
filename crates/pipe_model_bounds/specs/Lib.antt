pub mod DroppedOnce
pub mod Numbers
pub mod RecallListed
pub mod Sizes
