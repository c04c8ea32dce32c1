pub mod BarrierLaws
pub mod KeyOrder
pub mod MessageLaws
pub mod SenderLaws
pub mod WayLaws
pub mod Slices
