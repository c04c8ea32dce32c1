pub mod Links
pub mod Ways
