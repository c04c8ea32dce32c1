pub mod Header
pub mod Pending
pub mod Sending
pub mod State
