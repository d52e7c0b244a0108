pub mod Inner
pub mod Rounds
pub mod Turns
