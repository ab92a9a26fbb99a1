pub mod Cutting
pub mod Spelling
pub mod Listing
pub mod Commands
pub mod Examples
