mod CursorLemmas
mod PackedLemmas
mod RunLemmas
mod SpellingLemmas
