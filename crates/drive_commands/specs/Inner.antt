-- What only private contracts use.
pub mod Carries
pub mod Storing
pub mod Appending
pub mod Fetching
pub mod Opening
pub mod Passing
