mod LineLemmas
mod ExplainLemmas
mod WordLemmas
