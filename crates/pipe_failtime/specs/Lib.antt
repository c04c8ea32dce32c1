pub mod Fed
pub mod Filled
pub mod First
pub mod Reaching
