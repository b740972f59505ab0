pub mod Phases
pub mod Holds
pub mod Moves
pub mod Asks
pub mod Opening
pub mod Steps
pub mod Calls
pub mod NodeCalls
