pub mod Filled
pub mod Inner
