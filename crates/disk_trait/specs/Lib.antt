pub mod Image
pub mod Calls
pub mod Depots
pub mod Fuse
