pub mod Commands
pub mod Orders
pub mod Explaining
pub mod Inner
