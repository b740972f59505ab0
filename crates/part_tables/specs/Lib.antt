pub mod Parts
pub mod StoreParts
pub mod ClientParts
pub mod Arriving
