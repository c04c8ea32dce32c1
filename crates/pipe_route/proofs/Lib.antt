pub mod FirstsLaws
