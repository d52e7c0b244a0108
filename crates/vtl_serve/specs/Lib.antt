pub mod Desks
pub mod Labels
pub mod Libraries
pub mod OneBay
pub mod OneHost
