mod AwakeLemmas
mod MarkLemmas
