-- The changes that bytes spell, as a function.
use Rattle.std.specs.Prelude.{◌≡◌, ℕ, List, Option, None, Some}
use Rattle.std.proofs.Common.{inl, inr, ap, subst}
use Rattle.volume_core.specs.declared.changes.Change.{Change}
use Rattle.change_records.specs.Records.{SpellsAll, IsBadAt}
use Rattle.change_records.specs.Inner.Decided.{DecidesBody, decided, same_list, never_both}

-- the changes, where it was decided that the bytes spell some (own)
abbrev pub changes_decided : {bytes : List ℕ} → DecidesBody bytes → Option (List Change)
changes_decided (inl list) = Some list.0
changes_decided (inr bad) = None

-- the changes that bytes spell, if they spell some (own)
abbrev pub changes_on : List ℕ → Option (List Change)
changes_on bytes = changes_decided (decided bytes)

-- where bytes spell changes, the function gives these (own)
pub changes_on_is : (bytes : List ℕ) (changes : List Change) → SpellsAll bytes changes → changes_on bytes ≡ Some changes
changes_on_is bytes changes spells = by (decided bytes)
  where
    by : (d : DecidesBody bytes) → changes_decided d ≡ Some changes
    by (inl list) = ap Some (same_list bytes list.0 changes list.1 spells)
    by (inr bad) = absurd (never_both bytes changes bad.0 spells bad.1)

-- where the function gives changes, the bytes spell them (own)
pub changes_on_spelled : (bytes : List ℕ) (changes : List Change) → changes_on bytes ≡ Some changes
    → SpellsAll bytes changes
changes_on_spelled bytes changes = by (decided bytes)
  where
    pick : Option (List Change) → List Change
    pick None = changes
    pick (Some found) = found

    by : (d : DecidesBody bytes) → changes_decided d ≡ Some changes → SpellsAll bytes changes
    by (inl list) e = subst (λ (l : List Change). SpellsAll bytes l) (ap pick e) list.1
    by (inr bad) e = absurd (cc)

-- bytes that spell no list are bad at a place (own)
pub no_changes_on : (bytes : List ℕ) → changes_on bytes ≡ None → (at : ℕ) × IsBadAt bytes at
no_changes_on bytes = by (decided bytes)
  where
    by : (d : DecidesBody bytes) → changes_decided d ≡ None → (at : ℕ) × IsBadAt bytes at
    by (inl list) e = absurd (cc)
    by (inr bad) e = bad
