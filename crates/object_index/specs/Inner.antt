-- Definitions for private contracts and the proofs of laws alone.
pub mod Table
pub mod Tables
pub mod RunSearch
