pub mod Known
pub mod NextLine
pub mod Refusals
pub mod Endings
pub mod LineLaws
