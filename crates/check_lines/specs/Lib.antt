pub mod Disks
pub mod Reading
pub mod SideText
