pub mod Content
pub mod Network
pub mod Read
