pub mod Inner
pub mod Ledgers
