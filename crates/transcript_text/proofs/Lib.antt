mod Above
mod Values
mod PartWords
mod FactWords
mod LineWords
mod Hex
