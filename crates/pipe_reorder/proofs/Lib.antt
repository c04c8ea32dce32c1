pub mod TombstoneLaws
pub mod VoidLaws
pub mod Walks
