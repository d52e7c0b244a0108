pub mod Hosts
pub mod Idle
pub mod Looks
pub mod Reading
pub mod Rings
pub mod Rooms
pub mod Serving
pub mod Writing
