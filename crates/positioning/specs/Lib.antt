pub mod Motion
pub mod Report
pub mod Laws
pub mod Inner
