pub mod Answers
pub mod Damages
pub mod Fixes
pub mod Memory
pub mod Pairs
pub mod Reasons
pub mod Sizes
pub mod Stores
