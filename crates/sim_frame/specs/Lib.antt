pub mod Stream
pub mod Opening
