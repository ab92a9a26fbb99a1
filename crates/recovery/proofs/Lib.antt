pub mod Solving
pub mod Extending
pub mod Sourcing
pub mod Placing
pub mod Ranges
