-- Bytes at places, after those from a place on are removed.
use Rattle.std.proofs.Common.{◌≡◌, ℕ, ◌<◌, ◌≤◌, ◌∙◌, sym, ap, cond, inl, inr, arith, Option, None, Ordering, Less, Equal, Greater}
use Rattle.std.proofs.lemmas.Bool.{cases_lt}
use Rattle.std.proofs.lemmas.Cmp.{nat_cmp_total}
use Rattle.std.proofs.lemmas.Map.Views.{get-entries_below}
use Rattle.std.specs.BTreeMap.{get, BTreeMap}
use Rattle.std.specs.BTreeMap.Range.{entries_below}
use Rattle.std.specs.Cmp.{nat_cmp_is}
use Rattle.std.specs.Option.{unwrap_or}
use Rattle.std.specs.Ordering.{nat_cmp, is_gt}
use Rattle.tape_disk.specs.SparseBytes.{byte_in}

module _ (old new : BTreeMap ℕ ℕ) (len place : ℕ)
    (below : new.entries ≡ entries_below (nat_cmp len) old.entries) where
  abbrev kept : Ordering → Option ℕ
  kept order = cond (is_gt order) (get nat_cmp old place) None

  found : (order : Ordering) → order ≡ nat_cmp len place → byte_in new place ≡ unwrap_or (kept order) 0
  found order is = ap (λ (o : Option ℕ). unwrap_or o 0)
      (get-entries_below nat_cmp_total old new len place below ∙ ap kept (sym is))

  pub byte_before : place < len → byte_in new place ≡ byte_in old place
  byte_before before = found Greater (nat_cmp_is len place Greater before)

  pub byte_behind : len ≤ place → byte_in new place ≡ 0
  byte_behind behind = elim (cases_lt len place) [
    | inl past ↦ found Less (nat_cmp_is len place Less past)
    | inr until ↦ found Equal (nat_cmp_is len place Equal (omega (arith, behind, until)))
  ]
