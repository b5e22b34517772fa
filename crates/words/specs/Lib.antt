pub mod Lines
pub mod Feeding
pub mod Runs
pub mod Taking
