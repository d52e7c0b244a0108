-- What only private contracts use.
pub mod StagedMedium
pub mod Fuses
