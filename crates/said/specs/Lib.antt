pub mod Pens
pub mod Notes
pub mod Saying
