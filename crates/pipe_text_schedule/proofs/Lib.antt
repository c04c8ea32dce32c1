pub mod HappenLaws
pub mod PlainLaws
pub mod ScheduleLaws
