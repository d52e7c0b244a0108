mod SetLemmas
mod LawLemmas
mod HeldLemmas
mod RuleLemmas
mod ReadLemmas
mod SaveLemmas
