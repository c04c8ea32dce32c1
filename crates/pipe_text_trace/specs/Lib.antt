pub mod Control
pub mod Event
pub mod Line
pub mod Packet
pub mod Record
pub mod Step
pub mod TraceText
