pub mod Reading
pub mod ReadFacts
pub mod Reclaiming
pub mod Inner
