pub mod Codes
pub mod Words
pub mod Columns
pub mod Values
