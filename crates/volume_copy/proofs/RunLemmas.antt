-- A run of filemarks, from one of them on.
use Rattle.std.proofs.Common.{◌≡◌, ℕ, zero, suc, ◌<◌, ◌≤◌, ◌+◌, ◌-◌, List, [], ◌∷◌, length, take, ap, sym, subst, refl, ◌∙◌, ◌⊎◌, inl, inr, arith, Some, None, true, false, leb}
use Rattle.std.specs.Prelude.{slice_get}
use Rattle.std.proofs.lemmas.Bool.Decides.{leb_tells}
use Rattle.std.proofs.lemmas.List.Sums.{sum_by-append}
use Rattle.std.proofs.lemmas.Option.{slice_get_within}
use Rattle.object_index.specs.declared.places.Placed.{Placed}
use Rattle.object_index.specs.declared.places.Placed.TheVariants.{Block, Mark}
use Rattle.object_index.specs.declared.runs.MarkRun.{MarkRun}
use Rattle.object_index.specs.MarkRuns.{HasMarkAt, IsMarkRun, IsRunUpto, placed_marks}
use Rattle.volume_copy.specs.EntryFacts.{RunOfMarks}

-- the filemarks of two lists are those of both
first_and_others : (object : Placed) (objects : List Placed)
    → placed_marks (object ∷ objects) ≡ placed_marks (object ∷ []) + placed_marks objects
first_and_others object objects = sum_by-append _ (object ∷ []) objects

one_more : (objects : List Placed) (at : ℕ) → HasMarkAt objects at
    → placed_marks (take (suc at) objects) ≡ placed_marks (take at objects) + 1
one_more [] at mark = absurd (cc)
one_more (Block place size ∷ objects) zero mark = absurd (cc)
one_more (Mark ∷ objects) zero mark = refl
one_more (object ∷ objects) (suc at) mark =
    omega (
      arith,
      first_and_others object (take (suc at) objects),
      first_and_others object (take at objects),
      one_more objects at mark,
    )

no_fewer : (objects : List Placed) (at more : ℕ)
    → placed_marks (take at objects) ≤ placed_marks (take (at + more) objects)
no_fewer [] zero zero = omega arith
no_fewer [] zero (suc more) = omega arith
no_fewer [] (suc at) more = omega arith
no_fewer (object ∷ objects) zero more = omega arith
no_fewer (object ∷ objects) (suc at) more =
    let next : suc at + more ≡ suc (at + more) = omega arith in
    omega (
      arith,
      ap (λ (n : ℕ). placed_marks (take n (object ∷ objects))) next,
      first_and_others object (take at objects),
      first_and_others object (take (at + more) objects),
      no_fewer objects at more,
    )

run_counted : (objects : List Placed) (from far : ℕ)
    → ((at : ℕ) → from ≤ at → at < from + far → HasMarkAt objects at)
    → placed_marks (take (from + far) objects) ≡ placed_marks (take from objects) + far
run_counted objects from zero marks =
    let same : from + zero ≡ from = omega arith in
    omega (arith, ap (λ (n : ℕ). placed_marks (take n objects)) same)
run_counted objects from (suc far) marks =
    let next : from + suc far ≡ suc (from + far) = omega arith in
    let before = run_counted objects from far (λ at low high. marks at low (omega (arith, high))) in
    omega (
      arith,
      ap (λ (n : ℕ). placed_marks (take n objects)) next,
      one_more objects (from + far) (marks (from + far) (omega arith) (omega arith)),
      before,
    )

some_same : (one other : MarkRun) → Some one ≡ Some other → one ≡ other
some_same one other same = cc

compare : (n k : ℕ) → (n < k) ⊎ ((n ≡ k) ⊎ (k < n))
compare n k = by (leb_tells n k) (leb_tells k n)
  where
    by : ((leb n k ≡ true) × (n ≤ k)) ⊎ ((leb n k ≡ false) × (k < n))
        → ((leb k n ≡ true) × (k ≤ n)) ⊎ ((leb k n ≡ false) × (n < k)) → (n < k) ⊎ ((n ≡ k) ⊎ (k < n))
    by (inl low) (inl high) = inr (inl (omega (arith, low.1, high.1)))
    by (inl low) (inr high) = inl high.1
    by (inr low) other = inr (inr low.1)

-- the last run that begins before the place after a filemark has that filemark
module _ (objects : List Placed) (at : ℕ) (mark : HasMarkAt objects at) where
  pub some_run : IsRunUpto objects (at + 1) None → ⊥
  some_run none =
      let next : at + 1 ≡ suc at = omega arith in
      omega (arith, ap (λ (n : ℕ). placed_marks (take n objects)) next, one_more objects at mark, none)

  module _ (run : MarkRun) (found : IsRunUpto objects (at + 1) (Some run)) where
    one : IsMarkRun objects run
    one = found.0.1.each found.0.2 run found.0.3

    no_fewer_past : run.first + run.count ≤ at
        → placed_marks (take (run.first + run.count) objects) ≤ placed_marks (take at objects)
    no_fewer_past past =
        let far = at - (run.first + run.count) in
        let all : run.first + run.count + far ≡ at = omega (arith, past) in
        omega (
          arith,
          no_fewer objects (run.first + run.count) far,
          ap (λ (n : ℕ). placed_marks (take n objects)) all,
        )

    reaches : at < run.first + run.count
    reaches = by (leb_tells (run.first + run.count) at)
      where
        by : ((leb (run.first + run.count) at ≡ true) × (run.first + run.count ≤ at))
            ⊎ ((leb (run.first + run.count) at ≡ false) × (at < run.first + run.count))
            → at < run.first + run.count
        by (inl past) =
            let next : at + 1 ≡ suc at = omega arith in
            let low = past.1 in
            omega (
              arith,
              found.1,
              found.2,
              ap (λ (n : ℕ). placed_marks (take n objects)) next,
              one_more objects at mark,
              one.before,
              run_counted objects run.first run.count one.marks,
              no_fewer_past past.1,
            )
        by (inr near) = near.1

    ended : HasMarkAt objects (run.first + run.count) → ⊥
    ended other =
        let there = found.0.1.all (run.first + run.count) other in
        by there.0 there.1 there.2 there.3 there.4 (compare there.0 found.0.2)
      where
        runs : List MarkRun
        runs = found.0.0

        by : (n : ℕ) (next : MarkRun) → slice_get runs n ≡ Some next → next.first ≤ run.first + run.count
            → run.first + run.count < next.first + next.count → (n < found.0.2) ⊎ ((n ≡ found.0.2) ⊎ (found.0.2 < n))
            → ⊥
        by n next is low high (inl before) =
            omega (arith, found.0.1.apart n found.0.2 next run before is found.0.3, low, high)
        by n next is low high (inr (inl same)) =
            let equal : next ≡ run =
            some_same next run (sym is ∙ ap (slice_get runs) same ∙ found.0.3) in
            omega (arith, high, ap (λ (r : MarkRun). r.first) equal, ap (λ (r : MarkRun). r.count) equal)
        by n next is low high (inr (inr after)) =
            omega (arith, found.0.1.apart found.0.2 n run next after found.0.3 is, low)

    -- from there on there are as many filemarks as are left of the run
    pub runs_on : RunOfMarks objects at (run.first + run.count - at)
    runs_on =
        let all : at + (run.first + run.count - at) ≡ run.first + run.count = omega (arith, reaches) in
        record {
          some = omega (arith, reaches);
          marks = λ place low high. one.marks place (omega (arith, low, found.1)) (omega (arith, high, all));
          ends = λ other. ended (subst (HasMarkAt objects) all other);
        }

    -- the rest of the run lies among the objects
    pub inside : run.first + run.count ≤ length objects
    inside =
        let last = run.first + run.count - 1 in
        let mark_there = one.marks last (omega (arith, one.some)) (omega (arith, one.some)) in
        omega (arith, slice_get_within objects last Mark mark_there, one.some)

    pub reaches_at : at ≤ run.first + run.count
    reaches_at = omega (arith, reaches)
