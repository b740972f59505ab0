pub mod Codecs
pub mod Ranges
pub mod FieldCodecs
