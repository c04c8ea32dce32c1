pub mod Register
pub mod Registers
pub mod Silence
pub mod InLinks
