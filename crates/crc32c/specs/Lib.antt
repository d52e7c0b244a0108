pub mod Crc
pub mod Facts
pub mod Known
pub mod Remainder
