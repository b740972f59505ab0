pub mod Names
pub mod WordLaws
pub mod Runs
pub mod Trails
pub mod BadWords
