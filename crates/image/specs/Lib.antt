pub mod Image
pub mod Fields
pub mod Answer
