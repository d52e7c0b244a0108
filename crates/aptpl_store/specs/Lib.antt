pub mod Answers
pub mod Codes
pub mod Contents
pub mod Inner
pub mod Kept
pub mod NotedStates
pub mod Spelling
pub mod State
