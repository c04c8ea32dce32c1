pub mod Views
pub mod PutLinks
pub mod Packets
pub mod Messages
pub mod Steps
pub mod Names
