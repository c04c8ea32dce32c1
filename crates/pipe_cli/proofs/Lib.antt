pub mod AnswerLaws
pub mod FormLaws
pub mod OneStatus
pub mod OutsideLaws
pub mod RunLaws
