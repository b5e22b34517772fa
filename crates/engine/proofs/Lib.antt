pub mod Entry
pub mod OneResult
