pub mod IntLemmas
pub mod WordLemmas
pub mod Numerals
pub mod Parts
pub mod ColumnLemmas
pub mod ValueLemmas
