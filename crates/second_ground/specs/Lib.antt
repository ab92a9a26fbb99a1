pub mod Number
pub mod Sizes
pub mod Tested
