-- Definitions for private contracts and the proofs of laws alone.
pub mod Deciding
pub mod Decoded
pub mod Spelled
pub mod Decided
