pub mod Columns
pub mod UserData
