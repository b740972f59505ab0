pub mod RowNames
pub mod Script
pub mod Faults
pub mod Outputs
pub mod Ends
pub mod Stops
pub mod Stands
pub mod Limits
