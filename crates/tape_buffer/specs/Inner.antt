-- What only private contracts use.
pub mod Adding
pub mod Fetching
pub mod Lending
pub mod Seeking
pub mod Storing
pub mod Waking
