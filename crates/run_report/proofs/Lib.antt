pub mod NewRows
pub mod Plain
pub mod Texts
pub mod Sizes
pub mod Tables
