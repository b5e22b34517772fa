pub mod Widths
pub mod Bounds
pub mod Room
