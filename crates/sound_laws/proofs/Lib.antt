pub mod Within
pub mod Rules
pub mod Kept
