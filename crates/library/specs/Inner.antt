pub mod Ending
pub mod Entering
