-- How many filemarks are among the first objects.
use Rattle.std.proofs.Common.{◌≡◌, ℕ, zero, suc, ◌<◌, ◌≤◌, ◌+◌, List, [], ◌∷◌, length, take, refl, ◌∙◌, ap, arith, Some}
use Rattle.std.proofs.lemmas.List.{take_all}
use Rattle.std.proofs.lemmas.List.Sums.{sum_by-append}
use Rattle.std.proofs.lemmas.Option.{slice_get_within}
use Rattle.object_index.specs.declared.places.Placed.{Placed}
use Rattle.object_index.specs.declared.places.Placed.TheVariants.{Block, Mark}
use Rattle.object_index.specs.declared.runs.MarkRun.{MarkRun}
use Rattle.object_index.specs.MarkRuns.{HasMarkAt, placed_marks}

pub same_run : (one other : MarkRun) → Some one ≡ Some other → one ≡ other
same_run one other same = cc

pub mark_within : (objects : List Placed) (at : ℕ) → HasMarkAt objects at → at < length objects
mark_within objects at mark = slice_get_within objects at Mark mark

-- the filemarks of two lists are those of both
first_and_others : (object : Placed) (objects : List Placed)
    → placed_marks (object ∷ objects) ≡ placed_marks (object ∷ []) + placed_marks objects
first_and_others object objects = sum_by-append _ (object ∷ []) objects

one_more : (objects : List Placed) (at : ℕ) → HasMarkAt objects at
    → placed_marks (take (suc at) objects) ≡ placed_marks (take at objects) + 1
one_more [] at mark = absurd (cc)
one_more (Block place size ∷ objects) zero mark = absurd (cc)
one_more (Mark ∷ objects) zero mark = refl
one_more (object ∷ objects) (suc at) mark =
    omega (
      arith,
      first_and_others object (take (suc at) objects),
      first_and_others object (take at objects),
      one_more objects at mark,
    )

no_more : (objects : List Placed) (at : ℕ) → (HasMarkAt objects at → ⊥)
    → placed_marks (take (suc at) objects) ≡ placed_marks (take at objects)
no_more [] zero none = refl
no_more [] (suc at) none = refl
no_more (Block place size ∷ objects) zero none = refl
no_more (Mark ∷ objects) zero none = absurd (none refl)
no_more (object ∷ objects) (suc at) none =
    omega (
      arith,
      first_and_others object (take (suc at) objects),
      first_and_others object (take at objects),
      no_more objects at none,
    )

-- from a place on there are only filemarks, or none
pub all_counted : (objects : List Placed) (from far : ℕ)
    → ((at : ℕ) → from ≤ at → at < from + far → HasMarkAt objects at)
    → placed_marks (take (from + far) objects) ≡ placed_marks (take from objects) + far
all_counted objects from zero marks =
    let same : from + zero ≡ from = omega arith in
    omega (arith, ap (λ (n : ℕ). placed_marks (take n objects)) same)
all_counted objects from (suc far) marks =
    let next : from + suc far ≡ suc (from + far) = omega arith in
    let before = all_counted objects from far (λ at low high. marks at low (omega (arith, high))) in
    omega (
      arith,
      ap (λ (n : ℕ). placed_marks (take n objects)) next,
      one_more objects (from + far) (marks (from + far) (omega arith) (omega arith)),
      before,
    )

pub none_counted : (objects : List Placed) (from far : ℕ)
    → ((at : ℕ) → from ≤ at → at < from + far → HasMarkAt objects at → ⊥)
    → placed_marks (take (from + far) objects) ≡ placed_marks (take from objects)
none_counted objects from zero none =
    let same : from + zero ≡ from = omega arith in ap (λ (n : ℕ). placed_marks (take n objects)) same
none_counted objects from (suc far) none =
    let next : from + suc far ≡ suc (from + far) = omega arith in
    let before = none_counted objects from far (λ at low high. none at low (omega (arith, high))) in
    ap (λ (n : ℕ). placed_marks (take n objects)) next
    ∙ no_more objects (from + far) (none (from + far) (omega arith) (omega arith))
    ∙ before

pub marks_all : (objects : List Placed) → placed_marks (take (length objects) objects) ≡ placed_marks objects
marks_all objects = ap placed_marks (take_all (length objects) objects (omega arith))
