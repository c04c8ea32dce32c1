pub mod Agreement
pub mod Holding
pub mod RecordOrder
pub mod StampOrder
