pub mod Carried
pub mod Runs
