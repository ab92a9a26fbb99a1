pub mod Laws
pub mod Lanes
pub mod Masked
pub mod Bytes
