pub mod Export
pub mod Import
pub mod Inner
pub mod Only
pub mod Examples
