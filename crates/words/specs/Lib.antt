pub mod Words
pub mod Decimal
pub mod Columns
pub mod Command
