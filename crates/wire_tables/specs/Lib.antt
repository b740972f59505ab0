pub mod Wire
pub mod Runs
pub mod Faults
