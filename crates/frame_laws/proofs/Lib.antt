pub mod Fits
pub mod Said
pub mod Chunks
pub mod Lengths
pub mod Contents
pub mod Bodies
pub mod Frames
