pub mod Places
pub mod Laws
pub mod Readings
pub mod Frame
pub mod Images
pub mod Examples
