pub mod DecimalLaws
pub mod BodyLaws
pub mod NumberLaws
pub mod FrontLaws
pub mod LineLaws
pub mod PlainLaws
