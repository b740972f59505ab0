pub mod NewRows
pub mod Starts
