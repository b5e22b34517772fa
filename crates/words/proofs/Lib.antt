pub mod KindLaws
pub mod LineLaws
pub mod Whole
pub mod OneResult
