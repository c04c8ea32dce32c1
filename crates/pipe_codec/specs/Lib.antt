pub mod Control
pub mod Number
pub mod Packet
