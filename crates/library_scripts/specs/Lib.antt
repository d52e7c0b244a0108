pub mod Crews
pub mod Inner
pub mod Ran
