pub mod CallLaws
pub mod HeldLaws
pub mod OneResult
