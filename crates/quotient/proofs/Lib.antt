pub mod Bytes
pub mod Quotients
