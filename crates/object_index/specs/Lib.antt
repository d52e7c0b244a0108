pub mod Places
pub mod MarkRuns
pub mod Shapes
pub mod Facts
pub mod MarkFacts
pub mod Indexes
pub mod Inner
