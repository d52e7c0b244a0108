pub mod Checks
pub mod ConfigChecks
pub mod Configured
pub mod Creating
pub mod Opened
pub mod Reclaims
