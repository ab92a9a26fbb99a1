pub mod File
pub mod Inner
