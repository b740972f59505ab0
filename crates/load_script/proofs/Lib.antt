pub mod InOrder
pub mod Shorts
pub mod Drawing
pub mod Declaring
pub mod Writing
