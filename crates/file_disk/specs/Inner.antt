pub mod Causes
pub mod Doubts
pub mod Rested
pub mod SystemFile
pub mod Transfers
