mod ListLemmas
mod SeenLemmas
mod ReasonLemmas
