pub mod Barcode
pub mod Below
pub mod Layout
pub mod Limits
pub mod Steps
