pub mod Fit
pub mod Short
