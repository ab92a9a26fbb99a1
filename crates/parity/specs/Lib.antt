pub mod Make
pub mod Answer
pub mod Inner
