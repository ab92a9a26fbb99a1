pub mod Lists
pub mod Pass
