pub mod Choose
pub mod Xor
pub mod Bit
pub mod Sum
pub mod Part
pub mod Patch
pub mod Number
pub mod Left
