pub mod Mask
pub mod Strips
