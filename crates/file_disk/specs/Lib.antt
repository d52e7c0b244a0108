pub mod FailedCall
pub mod FileDisk
pub mod Inner
pub mod OpenFile
pub mod Opening
pub mod RawFile
pub mod Smears
