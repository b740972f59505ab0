pub mod Anew
pub mod Kept
pub mod Steps
