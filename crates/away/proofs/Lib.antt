pub mod Empty
pub mod Back
pub mod Laws
pub mod Ways
pub mod Agreeing
pub mod Examples
