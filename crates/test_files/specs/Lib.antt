pub mod Forgetful
pub mod Staged
