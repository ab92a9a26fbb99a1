pub mod Params
pub mod Layout
pub mod Sections
pub mod Reading
pub mod Examples
