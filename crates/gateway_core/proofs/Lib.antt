pub mod Placing
pub mod Slots
pub mod TimerLists
