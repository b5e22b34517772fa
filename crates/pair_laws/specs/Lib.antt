pub mod Model
pub mod Statement
