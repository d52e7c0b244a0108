-- Lists of elements that are looked at one after another.
use Rattle.std.proofs.Common.{◌≡◌, ◌<◌, ◌+◌, ◌⊎◌, inl, inr, ℕ, Bool, true, List, Option, None, Some, length, get_or, set, ◌∙◌, ap, sym, arith}
use Rattle.std.proofs.lemmas.List.{get_or-set_other, get_or_default}
use Rattle.std.proofs.lemmas.Grind.{get_or-set_at}
use Rattle.std.proofs.Math.Nat.{eq-or-lt_of_le}
use Rattle.library.specs.Counts.{has_drive}
use Rattle.library.specs.Seen.{is_place_seen, seen_at}
use Rattle.library.specs.declared.inventories.Element.{Element}
use Rattle.library.specs.declared.inventories.Element.TheVariants.{Missing}

module _ {X : Type 0} where
  -- a slot exists, and its element is what it holds
  pub slot_there : (one : Element) (x : Option X) → one ≡ seen_at x → is_place_seen one ≡ true
  slot_there one None is = ap is_place_seen is
  slot_there one (Some x) is = ap is_place_seen is

  -- one more slot
  pub seen_on : (seen : List Element) (row : List (Option X)) (at : ℕ) (one : Element) (x d : Option X)
      → at < length seen → at < length row → get_or row at d ≡ x → one ≡ seen_at x
      → ((k : ℕ) → k < at → get_or seen k Missing ≡ seen_at (get_or row k None))
      → (k : ℕ) → k < at + 1 → get_or (set seen at one) k Missing ≡ seen_at (get_or row k None)
  seen_on seen row at one x d within there found is so k less = by (eq-or-lt_of_le (omega (arith, less)))
    where
      by : (k ≡ at) ⊎ (k < at) → get_or (set seen at one) k Missing ≡ seen_at (get_or row k None)
      by (inl same) =
          get_or-set_at seen at k one Missing same within ∙ is
          ∙ ap (seen_at {X = X}) (sym found ∙ get_or_default row at d None there)
          ∙ ap (λ (n : ℕ). seen_at (get_or row n None)) (sym same)
      by (inr lower) =
          get_or-set_other seen at k one Missing (λ same. absurd (omega (arith, same, lower))) ∙ so k lower

-- one more drive
pub drives_on : (seen : List Element) (row : List Bool) (at : ℕ) (one : Element) → at < length seen
    → is_place_seen one ≡ has_drive row (at + 1)
    → ((k : ℕ) → k < at → is_place_seen (get_or seen k Missing) ≡ has_drive row (k + 1))
    → (k : ℕ) → k < at + 1 → is_place_seen (get_or (set seen at one) k Missing) ≡ has_drive row (k + 1)
drives_on seen row at one within is so k less = by (eq-or-lt_of_le (omega (arith, less)))
  where
    by : (k ≡ at) ⊎ (k < at) → is_place_seen (get_or (set seen at one) k Missing) ≡ has_drive row (k + 1)
    by (inl same) =
        ap is_place_seen (get_or-set_at seen at k one Missing same within) ∙ is
        ∙ ap (λ (n : ℕ). has_drive row (n + 1)) (sym same)
    by (inr lower) =
        ap is_place_seen
        (get_or-set_other seen at k one Missing (λ same. absurd (omega (arith, same, lower)))) ∙ so k lower
