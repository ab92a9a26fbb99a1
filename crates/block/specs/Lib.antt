pub mod Parity
pub mod Touches
pub mod Inner
