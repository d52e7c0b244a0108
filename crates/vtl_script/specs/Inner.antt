pub mod ReadItem
pub mod Reading
pub mod RunItem
pub mod Writing
