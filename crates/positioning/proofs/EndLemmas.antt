-- Where a walk ends, the motion ends.
use Rattle.std.proofs.Common.{◌≡◌, ◌≤◌, ◌<◌, ◌+◌, ◌-◌, ℕ, List, length, inl, inr, refl, ap, ◌∙◌, arith}
use Rattle.volume_core.specs.declared.objects.Object.{Object}
use Rattle.positioning.specs.declared.positions.Stop.{Stop}
use Rattle.positioning.specs.declared.positions.Stop.TheVariants.{Done, AtMark, AtEnd, AtStart}
use Rattle.positioning.specs.Motion.{IsBlockAt, IsMarkAt, AreBlocksFrom, AreBlocksBefore, IsGreatest, ForwardOverBlocks, BackwardOverBlocks, marks_between}
use Rattle.positioning.specs.Inner.Walks.{WalksForward, WalksBackward}
use Rattle.positioning.proofs.MarkLemmas.{not_both, block_inside, none_between, mark_behind, mark_before, are_blocks, mark_inside}

-- blocks that no further block follows are the most
most_on : (objects : List Object) (from count passed : ℕ) → passed ≤ count → AreBlocksFrom objects from passed
    → (passed < count → IsBlockAt objects (from + passed) → ⊥)
    → IsGreatest count (AreBlocksFrom objects from) passed
most_on objects from count passed within blocks last = record {
  within = within;
  has = blocks;
  greatest = λ other below has.
      let no_more : passed < other → ⊥ = λ more. last (omega arith) (has (from + passed) (omega arith) (omega arith)) in
      omega (arith, no_more);
}

most_before : (objects : List Object) (from count passed : ℕ) → passed ≤ count → AreBlocksBefore objects from passed
    → (passed < count → passed < from → IsBlockAt objects (from - passed - 1) → ⊥)
    → IsGreatest count (AreBlocksBefore objects from) passed
most_before objects from count passed within blocks last = record {
  within = within;
  has = blocks;
  greatest = λ other below has.
      let no_more : passed < other → ⊥ =
      λ more.
      let next : IsBlockAt objects (from - passed - 1) =
      has.1 (from - passed - 1) (omega arith) (omega (arith, has.0)) in
      last (omega arith) (omega (arith, has.0)) next in
      omega (arith, no_more);
}

-- forward, the blocks up to a filemark; all that were to be passed; or those up to the end of data
forward_mark : (objects : List Object) (from count mark : ℕ) → from ≤ mark → mark < from + count
    → IsMarkAt objects mark → marks_between objects from mark ≡ 0
    → ForwardOverBlocks objects from count (mark + 1) AtMark (count - (mark - from))
forward_mark objects from count mark ahead within here none =
    let place : from + (mark - from) ≡ mark = omega arith in
    let blocks : AreBlocksFrom objects from (mark - from) =
    rw place (are_blocks objects from mark (omega (arith, mark_inside objects mark here)) none) in
    let met : IsMarkAt objects (from + (mark - from)) = rw place here in (
      mark - from,
      most_on objects from count (mark - from) (omega arith) blocks
          (λ more block. not_both objects (from + (mark - from)) block met),
      (omega arith, met, omega arith, refl),
    )

forward_all : (objects : List Object) (from count : ℕ) → from + count ≤ length objects
    → marks_between objects from (from + count) ≡ 0
    → ForwardOverBlocks objects from count (from + count) Done 0
forward_all objects from count inside none = (
  count,
  most_on objects from count count (omega arith) (are_blocks objects from (from + count) inside none)
      (λ more block. omega arith),
  (refl, refl, refl),
)

forward_end : (objects : List Object) (from count : ℕ) → from ≤ length objects → length objects < from + count
    → marks_between objects from (length objects) ≡ 0
    → ForwardOverBlocks objects from count (length objects) AtEnd (count - (length objects - from))
forward_end objects from count inside short none =
    let place : from + (length objects - from) ≡ length objects = omega arith in
    let blocks : AreBlocksFrom objects from (length objects - from) =
    rw place (are_blocks objects from (length objects) (omega arith) none) in (
      length objects - from,
      most_on objects from count (length objects - from) (omega arith) blocks
          (λ more block. omega (arith, block_inside objects (from + (length objects - from)) block)),
      (omega arith, place, refl, refl),
    )

-- the same backward
backward_mark : (objects : List Object) (from count mark : ℕ) → from ≤ length objects → mark < from
    → from ≤ mark + count → IsMarkAt objects mark → marks_between objects (mark + 1) from ≡ 0
    → BackwardOverBlocks objects from count mark AtMark (count - (from - mark - 1))
backward_mark objects from count mark inside behind within here none =
    let place : from - (from - mark - 1) ≡ mark + 1 = omega arith in
    let last : from - (from - mark - 1) - 1 ≡ mark = omega arith in
    let blocks : AreBlocksBefore objects from (from - mark - 1) =
    (omega arith, rw place (are_blocks objects (mark + 1) from inside none)) in (
      from - mark - 1,
      most_before objects from count (from - mark - 1) (omega arith) blocks
          (λ more some block. not_both objects mark (rw last at block) here),
      (omega arith, here, omega arith, refl),
    )

backward_all : (objects : List Object) (from count : ℕ) → from ≤ length objects → count ≤ from
    → marks_between objects (from - count) from ≡ 0
    → BackwardOverBlocks objects from count (from - count) Done 0
backward_all objects from count inside fits none = (
  count,
  most_before objects from count count (omega arith) (fits, are_blocks objects (from - count) from inside none)
      (λ more some block. omega arith),
  (refl, omega arith, refl),
)

backward_start : (objects : List Object) (from count : ℕ) → from ≤ length objects → from < count
    → marks_between objects 0 from ≡ 0
    → BackwardOverBlocks objects from count 0 AtStart (count - from)
backward_start objects from count inside short none =
    let place : from - from ≡ 0 = omega arith in
    let blocks : AreBlocksBefore objects from from =
    (omega arith, rw place (are_blocks objects 0 from inside none)) in (
      from,
      most_before objects from count from (omega arith) blocks (λ more some block. omega arith),
      (short, refl, refl, refl),
    )

-- The walk to the first filemark ends where a motion over blocks ends: forward
pub walk_to_mark : (objects : List Object) (from count most at left end : ℕ) (stop : Stop) (rest : ℕ)
    → WalksForward objects from (from + most) 1 at left → most ≤ count → left ≡ 0
    → end ≡ at → stop ≡ AtMark → rest ≡ count - (at - from - 1)
    → ForwardOverBlocks objects from count end stop rest
walk_to_mark objects from count most at left end stop rest walk fits met e s r =
    elim walk.stops [
      | inl limit ↦ absurd (omega (arith, limit.1))
      | inr found ↦
          let mark : ℕ = found.0.0 in
          let behind : at ≡ mark + 1 = found.0.1 in
          let here : IsMarkAt objects mark = found.0.2 in
          let counted : marks_between objects from (mark + 1) + left ≡ 1 = rw behind at walk.counted in
          let apart : from ≡ mark + 1 → ⊥ =
          λ same.
          let none : marks_between objects from (mark + 1) ≡ 0 =
          ap (λ (f : ℕ). marks_between objects f (mark + 1)) same ∙ none_between objects (mark + 1) in
          omega (arith, counted, none) in
          let ahead : from ≤ mark = omega (arith, apart, walk.ahead) in
          let none : marks_between objects from mark ≡ 0 =
          omega (arith, counted, mark_behind objects from mark ahead here) in
          let ends : end ≡ mark + 1 = e ∙ behind in
          let left_over : rest ≡ count - (mark - from) = omega (arith, r, behind) in
          rw (ends, s, left_over) (forward_mark objects from count mark ahead (omega (arith, walk.within)) here none)
    ]

pub walk_of_all : (objects : List Object) (from count most at left end : ℕ) (stop : Stop) (rest : ℕ)
    → WalksForward objects from (from + most) 1 at left → from + most ≤ length objects → ¬ (left ≡ 0) → most ≡ count
    → end ≡ at → stop ≡ Done → rest ≡ 0
    → ForwardOverBlocks objects from count end stop rest
walk_of_all objects from count most at left end stop rest walk inside none_met all e s r =
    elim walk.stops [
      | inl limit ↦
          let ends : end ≡ from + count = omega (arith, e, limit.0, all) in
          let place : at ≡ from + count = omega (arith, limit.0, all) in
          let counted : marks_between objects from (from + count) + left ≡ 1 = rw place at walk.counted in
          rw (ends, s, r) (forward_all objects from count (omega arith) (omega (arith, counted, limit.1)))
      | inr found ↦ absurd (none_met found.1)
    ]

pub walk_to_end : (objects : List Object) (from count most at left end : ℕ) (stop : Stop) (rest : ℕ)
    → WalksForward objects from (from + most) 1 at left → from + most ≡ length objects → ¬ (left ≡ 0) → most < count
    → end ≡ at → stop ≡ AtEnd → rest ≡ count - most
    → ForwardOverBlocks objects from count end stop rest
walk_to_end objects from count most at left end stop rest walk inside none_met short e s r =
    elim walk.stops [
      | inl limit ↦
          let ends : end ≡ length objects = omega (arith, e, limit.0) in
          let place : at ≡ length objects = omega (arith, limit.0) in
          let counted : marks_between objects from (length objects) + left ≡ 1 = rw place at walk.counted in
          let left_over : rest ≡ count - (length objects - from) = omega arith in
          rw (ends, s, left_over)
          (forward_end objects from count (omega arith) (omega arith) (omega (arith, counted, limit.1)))
      | inr found ↦ absurd (none_met found.1)
    ]

-- and backward
pub walk_back_to_mark : (objects : List Object) (from count most at left end : ℕ) (stop : Stop) (rest : ℕ)
    → WalksBackward objects from (from - most) 1 at left → from ≤ length objects → most ≤ from → most ≤ count → left ≡ 0
    → end ≡ at → stop ≡ AtMark → rest ≡ count - (from - at - 1)
    → BackwardOverBlocks objects from count end stop rest
walk_back_to_mark objects from count most at left end stop rest walk inside low fits met e s r =
    elim walk.stops [
      | inl limit ↦ absurd (omega (arith, limit.1))
      | inr found ↦
          let apart : from ≡ at → ⊥ =
          λ same.
          let none : marks_between objects at from ≡ 0 =
          ap (λ (f : ℕ). marks_between objects at f) same ∙ none_between objects at in
          omega (arith, walk.counted, none) in
          let behind : at + 1 ≤ from = omega (arith, apart, walk.behind) in
          let none : marks_between objects (at + 1) from ≡ 0 =
          omega (arith, walk.counted, mark_before objects at from behind found.0) in
          rw (e, s, r)
          (backward_mark objects from count at inside (omega arith) (omega (arith, walk.within)) found.0 none)
    ]

pub walk_back_of_all : (objects : List Object) (from count most at left end : ℕ) (stop : Stop) (rest : ℕ)
    → WalksBackward objects from (from - most) 1 at left → from ≤ length objects → most ≤ from → ¬ (left ≡ 0)
    → most ≡ count → end ≡ at → stop ≡ Done → rest ≡ 0
    → BackwardOverBlocks objects from count end stop rest
walk_back_of_all objects from count most at left end stop rest walk inside low none_met all e s r =
    elim walk.stops [
      | inl limit ↦
          let place : at ≡ from - count = omega (arith, limit.0, all) in
          let ends : end ≡ from - count = e ∙ place in
          let counted : marks_between objects (from - count) from + left ≡ 1 = rw place at walk.counted in
          rw (ends, s, r) (backward_all objects from count inside (omega arith) (omega (arith, counted, limit.1)))
      | inr found ↦ absurd (none_met found.1)
    ]

pub walk_back_to_start : (objects : List Object) (from count most at left end : ℕ) (stop : Stop) (rest : ℕ)
    → WalksBackward objects from (from - most) 1 at left → from ≤ length objects → most ≡ from → ¬ (left ≡ 0)
    → most < count → end ≡ at → stop ≡ AtStart → rest ≡ count - most
    → BackwardOverBlocks objects from count end stop rest
walk_back_to_start objects from count most at left end stop rest walk inside all none_met short e s r =
    elim walk.stops [
      | inl limit ↦
          let place : at ≡ 0 = omega (arith, limit.0) in
          let ends : end ≡ 0 = e ∙ place in
          let counted : marks_between objects 0 from + left ≡ 1 = rw place at walk.counted in
          let left_over : rest ≡ count - from = omega arith in
          rw (ends, s, left_over)
          (backward_start objects from count inside (omega arith) (omega (arith, counted, limit.1)))
      | inr found ↦ absurd (none_met found.1)
    ]
