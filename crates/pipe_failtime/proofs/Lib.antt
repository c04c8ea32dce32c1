pub mod CutLaws
pub mod FilledLaws
pub mod FirstLaws
pub mod ReachingLaws
pub mod RoundLaws
pub mod TestLaws
pub mod TimeLaws
pub mod UselessLaws
