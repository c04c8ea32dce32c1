pub mod Decision
pub mod History
pub mod Node
pub mod Queues
pub mod Turn
pub mod World
