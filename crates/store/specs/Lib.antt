pub mod Lists
pub mod Store
pub mod Kinds
pub mod Image
