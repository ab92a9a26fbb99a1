pub mod Parts
pub mod Words
