pub mod Spots
pub mod Seen
pub mod Entries
pub mod Doubles
pub mod Reasons
pub mod Texts
