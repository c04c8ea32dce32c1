pub mod Controls
pub mod Packets
