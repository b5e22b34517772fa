pub mod PenLaws
pub mod OneResult
