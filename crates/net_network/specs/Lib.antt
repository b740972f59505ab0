pub mod Packets
pub mod Short
