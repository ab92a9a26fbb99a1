pub mod Marks
pub mod Bytes
pub mod Spots
pub mod Turns
pub mod Putting
pub mod Absent
