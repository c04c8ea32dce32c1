pub mod KeptLaws
pub mod MarkLaws
pub mod PlaceLaws
pub mod RecallLaws
pub mod SendingLaws
