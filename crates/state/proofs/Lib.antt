pub mod Scan
pub mod WaitingLaws
pub mod Table
pub mod KeptLaws
pub mod Sounds
pub mod SoundImage
pub mod OneResult
