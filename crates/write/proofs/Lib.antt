pub mod Empty
pub mod Laws
pub mod Ways
pub mod After
pub mod Beside
pub mod Examples
