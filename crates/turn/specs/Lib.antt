pub mod Acts
pub mod Columns
