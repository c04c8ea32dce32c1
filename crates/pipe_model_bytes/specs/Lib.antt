pub mod Bodies
pub mod Spelled
