pub mod SoFar
pub mod Renamed
pub mod HeldRows
pub mod Anew
