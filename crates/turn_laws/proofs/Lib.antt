pub mod Moved
pub mod Gave
pub mod EndLaws
pub mod DataLaws
pub mod RequestLaws
pub mod StartLaws
pub mod StepLaws
pub mod SetupLaws
