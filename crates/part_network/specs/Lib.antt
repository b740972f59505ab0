pub mod Frames
pub mod Packets
