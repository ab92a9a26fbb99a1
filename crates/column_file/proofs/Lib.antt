pub mod Columns
pub mod Writing
