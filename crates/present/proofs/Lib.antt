pub mod Empty
pub mod Laws
pub mod Counts
