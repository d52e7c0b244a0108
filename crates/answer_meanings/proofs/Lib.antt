mod FitLemmas
mod LawLemmas
mod TextLemmas
