pub mod Answer
pub mod Form
pub mod Input
pub mod Read
pub mod Replay
pub mod Running
pub mod Status
pub mod Write
