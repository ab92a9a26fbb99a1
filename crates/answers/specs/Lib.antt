pub mod List
pub mod Line
