pub mod Codec
pub mod Row
