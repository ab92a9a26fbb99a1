pub mod Bytes
pub mod Columns
pub mod Heads
pub mod Calls
pub mod Rightness
pub mod Blocks
