pub mod Message
pub mod Faults
pub mod Encoding
pub mod Reading
pub mod Decoding
pub mod Writing
pub mod Stripping
