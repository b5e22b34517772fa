pub mod Digits
pub mod Reading
pub mod Printing
pub mod Hearing
