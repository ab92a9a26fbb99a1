pub mod Present
pub mod Steps
