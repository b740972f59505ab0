pub mod Same
pub mod Well
pub mod Answered
