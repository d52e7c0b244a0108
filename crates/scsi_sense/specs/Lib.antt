pub mod Replies
pub mod SenseData
pub mod Senses
