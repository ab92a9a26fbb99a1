pub mod Touching
pub mod Blocks
