pub mod StagedMedium
pub mod StagedKeeper
pub mod Inner
