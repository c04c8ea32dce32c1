pub mod Calls
pub mod Outside
