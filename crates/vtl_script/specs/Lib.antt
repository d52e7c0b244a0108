pub mod Answered
pub mod InOrder
pub mod Inner
pub mod Items
pub mod Lines
pub mod Parsed
pub mod Runs
pub mod Text
