pub mod Cut
pub mod Against
pub mod Sized
