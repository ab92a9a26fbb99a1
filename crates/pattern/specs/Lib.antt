pub mod Pattern
pub mod Inner
