pub mod Causes
pub mod Meanings
pub mod Queues
