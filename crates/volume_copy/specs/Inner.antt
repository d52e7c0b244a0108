pub mod Packed
pub mod SoFar
