pub mod Views
pub mod Slips
