pub mod Ready
pub mod Taking
