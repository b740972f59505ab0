pub mod Values
pub mod Answers
pub mod Steps
pub mod Wires
pub mod Texts
pub mod Runs
