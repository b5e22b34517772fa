pub mod WalkLaws
pub mod AnswerLaws
pub mod LineLaws
pub mod Whole
pub mod Table
pub mod OneResult
