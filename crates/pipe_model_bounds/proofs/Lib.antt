pub mod Dropped
pub mod Few
pub mod Listed
pub mod NodeNumbers
pub mod Numbers
pub mod Sized
pub mod Told
