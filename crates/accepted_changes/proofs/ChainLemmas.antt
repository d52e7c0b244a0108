-- Items that survive in others, which themselves survive in a third list, survive in the third.
use Rattle.std.specs.Prelude.{◌≡◌, ℕ, zero, suc, List, ◌++◌}
use Rattle.std.proofs.Common.{◌∙◌, ap, subst, sym}
use Rattle.std.proofs.lemmas.List.{append_assoc}
use Rattle.accepted_changes.specs.Core.{Rules, IsKept, IsPrefix, KeptThrough}
use Rattle.accepted_changes.specs.Laws.{KeptStaysKept}

-- a prefix of a prefix is a prefix
begins_on : {C : Type 0} (xs ys zs : List C) → IsPrefix xs ys → IsPrefix ys zs → IsPrefix xs zs
begins_on xs ys zs one two = (
  one.0 ++ two.0,
  two.1 ∙ ap (λ (l : List _). l ++ two.0) one.1 ∙ append_assoc xs one.0 two.0,
)

module _ (rules : Rules) where
  -- items that survive in a list survive in each longer one from the same base
  kept_in_more : (n : ℕ) (base base' base'' : rules.Base) (items items' items'' : List rules.Item)
      → KeptThrough rules n base items base' items' → base'' ≡ base' → IsPrefix items' items''
      → KeptThrough rules n base items base'' items''
  kept_in_more zero base base' base'' items items' items'' kept same begun =
      (same ∙ kept.0, begins_on items items' items'' kept.1 begun)
  kept_in_more (suc n) base base' base'' items items' items'' kept same begun =
      (kept.0, kept.1, kept.2, subst (λ (b : rules.Base). rules.rebases kept.0 kept.1 b) (sym same) kept.3)

  kept_on : (m : ℕ) (base base' base'' : rules.Base) (items items' items'' : List rules.Item)
      → IsKept rules base items base' items' → KeptThrough rules m base' items' base'' items''
      → IsKept rules base items base'' items''
  kept_on zero base base' base'' items items' items'' one two =
      (one.0, kept_in_more one.0 base base' base'' items items' items'' one.1 two.0 two.1)
  kept_on (suc m) base base' base'' items items' items'' one two =
      let mid = kept_on m base base' two.0 items items' two.1 one two.2 in
      (suc mid.0, (two.0, two.1, mid.1, two.3))

  pub kept_stays_kept : KeptStaysKept rules
  kept_stays_kept base base' base'' items items' items'' one two =
      kept_on two.0 base base' base'' items items' items'' one two.1
