pub mod PageLaws
pub mod SpellLaws
pub mod FrameLaws
pub mod OneResult
pub mod Decimal
