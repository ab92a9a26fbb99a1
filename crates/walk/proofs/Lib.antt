pub mod Bytes
pub mod Places
