-- How many marks are among the first objects.
use Rattle.std.proofs.Common.{◌≡◌, ◌+◌, ℕ, zero, suc, List, [], ◌∷◌, take, refl, ap, ◌∙◌, arith}
use Rattle.std.specs.Prelude.{Some, slice_get}
use Rattle.std.proofs.lemmas.List.Sums.{sum_by-append}
use Rattle.volume_core.specs.declared.objects.Object.{Object}
use Rattle.volume_core.specs.declared.objects.Object.TheVariants.{Block, Mark}
use Rattle.volume_core.specs.declared.objects.Kind.TheVariants as Kinds
use Rattle.volume_core.specs.Volume.{kind_in, marks_in}

-- those of the first, and those of the others
first_and_others : (object : Object) (objects : List Object)
    → marks_in (object ∷ objects) ≡ marks_in (object ∷ []) + marks_in objects
first_and_others object objects = sum_by-append _ (object ∷ []) objects

mark_next : (objects : List Object) (at : ℕ) → kind_in (slice_get objects at) ≡ Some Kinds.Mark
    → marks_in (take (suc at) objects) ≡ marks_in (take at objects) + 1
mark_next [] at is = absurd (cc)
mark_next (Block bytes ∷ objects) zero is = absurd (cc)
mark_next (Mark ∷ objects) zero is = refl
mark_next (object ∷ objects) (suc at) is =
    omega (
      arith,
      first_and_others object (take (suc at) objects),
      first_and_others object (take at objects),
      mark_next objects at is,
    )

block_next : (objects : List Object) (at : ℕ) → kind_in (slice_get objects at) ≡ Some Kinds.Block
    → marks_in (take (suc at) objects) ≡ marks_in (take at objects)
block_next [] at is = absurd (cc)
block_next (Block bytes ∷ objects) zero is = refl
block_next (Mark ∷ objects) zero is = absurd (cc)
block_next (object ∷ objects) (suc at) is =
    omega (
      arith,
      first_and_others object (take (suc at) objects),
      first_and_others object (take at objects),
      block_next objects at is,
    )

-- with the mark behind them one more
pub mark_more : (objects : List Object) (at : ℕ) → kind_in (slice_get objects at) ≡ Some Kinds.Mark
    → marks_in (take (at + 1) objects) ≡ marks_in (take at objects) + 1
mark_more objects at is =
    let next : at + 1 ≡ suc at = omega arith in
    ap (λ (n : ℕ). marks_in (take n objects)) next ∙ mark_next objects at is

-- with the block behind them no more
pub block_more : (objects : List Object) (at : ℕ) → kind_in (slice_get objects at) ≡ Some Kinds.Block
    → marks_in (take (at + 1) objects) ≡ marks_in (take at objects)
block_more objects at is =
    let next : at + 1 ≡ suc at = omega arith in
    ap (λ (n : ℕ). marks_in (take n objects)) next ∙ block_next objects at is
