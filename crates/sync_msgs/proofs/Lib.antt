pub mod Decoding
pub mod FieldCodecs
pub mod MessageCodecs
pub mod KindNumbers
