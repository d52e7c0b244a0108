mod PairedLemmas
mod ReadyLemmas
mod TakingLemmas
