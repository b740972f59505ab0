pub mod Devices
pub mod Schemas
pub mod Net
pub mod Worked
pub mod Runs
pub mod Faults
