pub mod EntryLaws
pub mod OneResult
pub mod Refusals
