pub mod Written
pub mod Steps
