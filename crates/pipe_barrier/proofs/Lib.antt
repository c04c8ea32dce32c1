pub mod Walk
pub mod Standing
pub mod Quieting
pub mod InLinkLaws
