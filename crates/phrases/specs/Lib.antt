pub mod Page
pub mod Spelling
pub mod Tables
pub mod Frames
