pub mod HeldCodecs
