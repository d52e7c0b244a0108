pub mod Drives
pub mod Reasons
pub mod Texts
