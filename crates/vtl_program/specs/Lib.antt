pub mod Explained
pub mod Files
pub mod Orders
