mod MarkLemmas
mod CountLemmas
mod EndLemmas
mod WalkLemmas
mod LawLemmas
