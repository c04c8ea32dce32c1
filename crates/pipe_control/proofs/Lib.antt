pub mod CountLaws
pub mod DeadLaws
pub mod KeptLaws
pub mod KnownLaws
pub mod ListLaws
pub mod NewsLaws
