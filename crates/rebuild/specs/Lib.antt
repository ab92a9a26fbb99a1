pub mod Lost
pub mod Answer
pub mod Agrees
pub mod Inner
