pub mod Blocks
pub mod Waits
