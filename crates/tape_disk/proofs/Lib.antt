mod Replays
mod Steps
mod Torn
mod SparseLemmas
