pub mod Ring
pub mod Answer
