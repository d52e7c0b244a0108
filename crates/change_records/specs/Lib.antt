pub mod Records
pub mod Readers
pub mod ChangesOn
pub mod Inner
