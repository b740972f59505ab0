pub mod Directories
pub mod Sessions
pub mod State
