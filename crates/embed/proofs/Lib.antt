pub mod CallLaws
pub mod FieldsLaws
pub mod BlockBack
pub mod GoesOn
pub mod OneResult
