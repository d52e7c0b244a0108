pub mod Volume
pub mod Medium
pub mod Stores
pub mod Plain
pub mod Inner
