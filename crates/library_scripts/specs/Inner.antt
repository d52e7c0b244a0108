pub mod CrewsOn
pub mod Done
pub mod InPlace
pub mod Jobs
pub mod Serves
pub mod Staged
pub mod StagesOn
pub mod Threads
