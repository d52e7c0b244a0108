-- What only private contracts and invariants use.
pub mod Answered
pub mod Causes
pub mod Growing
pub mod Open
pub mod Opening
pub mod Reading
pub mod Unique
