pub mod Marks
pub mod Count
pub mod Asking
pub mod Collecting
pub mod Single
