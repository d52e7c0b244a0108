mod InputLemmas
mod LabelLemmas
mod OneBayLemmas
mod OneHostLemmas
mod SharedLemmas
