mod CheckLemmas
mod OneTextLemmas
pub mod PairLemmas
mod SideTextLemmas
mod ReadingLemmas
