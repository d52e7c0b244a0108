-- Definitions for private contracts and invariants alone.
pub mod Causes
pub mod Open
pub mod Reading
pub mod Decoded
