pub mod Stamped
pub mod Framing
pub mod Sending
