pub mod Choosing
pub mod Copying
pub mod Inner
pub mod Pairs
pub mod Passes
pub mod Roles
