pub mod Wire
pub mod Link
pub mod Statement
