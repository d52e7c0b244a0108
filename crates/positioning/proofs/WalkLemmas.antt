-- Each motion has an end.
use Rattle.std.proofs.Common.{◌≡◌, ◌≤◌, ◌<◌, ◌+◌, ◌-◌, ◌⊎◌, ℕ, pos, negsuc, suc, zero, List, length, inl, inr, refl, arith}
use Rattle.std.proofs.lemmas.Bool.{cases_lt}
use Rattle.volume_core.specs.declared.objects.Object.{Object}
use Rattle.vtl_base.specs.declared.space_codes.SpaceCode.TheVariants.{Blocks, Filemarks, EndOfData}
use Rattle.positioning.specs.declared.positions.Stop.{Stop}
use Rattle.positioning.specs.declared.positions.Stop.TheVariants.{Done, AtMark, AtEnd, AtStart}
use Rattle.positioning.specs.Motion.{IsBlockAt, IsMarkAt, ForwardOverBlocks, BackwardOverBlocks, ForwardOverMarks, BackwardOverMarks, marks_between}
use Rattle.positioning.specs.Inner.Walks.{WalksForward, WalksBackward}
use Rattle.positioning.specs.Laws.{EachSpaceEnds}
use Rattle.positioning.proofs.MarkLemmas.{block_or_mark, none_between, mark_behind, block_behind, mark_before, block_before}
use Rattle.positioning.proofs.EndLemmas.{walk_to_mark, walk_of_all, walk_to_end, walk_back_to_mark, walk_back_of_all, walk_back_to_start}

-- a walk with a limit one object further
one_further : (objects : List Object) (from limit marks at left : ℕ) → from ≤ limit → limit < length objects
    → WalksForward objects from limit marks at left
    → (end : ℕ) × (rest : ℕ) × WalksForward objects from (limit + 1) marks end rest
one_further objects from limit marks at left ahead inside walk =
    elim walk.stops [
      | inr found ↦ (
        at,
        left,
        record {
          ahead = walk.ahead;
          within = omega (arith, walk.within);
          counted = walk.counted;
          stops = inr found;
        },
      )
      | inl short ↦
          let counted : marks_between objects from limit + left ≡ marks = rw short.0 at walk.counted in
          let here : IsBlockAt objects limit ⊎ IsMarkAt objects limit = block_or_mark objects limit inside in
          elim here [
            | inl block ↦ (
              limit + 1,
              left,
              record {
                ahead = omega arith;
                within = omega arith;
                counted = omega (arith, counted, block_behind objects from limit ahead block);
                stops = inl (refl, short.1);
              },
            )
            | inr mark ↦ (
              limit + 1,
              left - 1,
              record {
                ahead = omega arith;
                within = omega arith;
                counted = omega (arith, counted, short.1, mark_behind objects from limit ahead mark);
                stops =
                    let more : (1 < left) ⊎ (left ≤ 1) = cases_lt 1 left in
                    elim more [
                      | inl some ↦ inl (refl, omega arith)
                      | inr none ↦ inr ((limit, refl, mark), omega arith)
                    ];
              },
            )
          ]
    ]

some_walk : (objects : List Object) (from far limit marks : ℕ) → limit ≡ from + far → limit ≤ length objects → 1 ≤ marks
    → (at : ℕ) × (left : ℕ) × WalksForward objects from limit marks at left
some_walk objects from zero limit marks sum inside some = (
  from,
  marks,
  record {
    ahead = omega arith;
    within = omega arith;
    counted = omega (arith, none_between objects from);
    stops = inl (omega arith, some);
  },
)
some_walk objects from (suc far) limit marks sum inside some =
    let before : (at : ℕ) × (left : ℕ) × WalksForward objects from (from + far) marks at left =
    some_walk objects from far (from + far) marks refl (omega arith) some in
    let last : limit ≡ from + far + 1 = omega arith in
    rw last (one_further objects from (from + far) marks before.0 before.1 (omega arith) (omega arith) before.2)

one_further_back : (objects : List Object) (from limit marks at left : ℕ) → limit + 1 ≤ from → from ≤ length objects
    → WalksBackward objects from (limit + 1) marks at left
    → (end : ℕ) × (rest : ℕ) × WalksBackward objects from limit marks end rest
one_further_back objects from limit marks at left behind inside walk =
    elim walk.stops [
      | inr found ↦ (
        at,
        left,
        record {
          behind = walk.behind;
          within = omega (arith, walk.within);
          counted = walk.counted;
          stops = inr found;
        },
      )
      | inl short ↦
          let counted : marks_between objects (limit + 1) from + left ≡ marks = rw short.0 at walk.counted in
          let here : IsBlockAt objects limit ⊎ IsMarkAt objects limit = block_or_mark objects limit (omega arith) in
          elim here [
            | inl block ↦ (
              limit,
              left,
              record {
                behind = omega arith;
                within = omega arith;
                counted = omega (arith, counted, block_before objects limit from behind block);
                stops = inl (refl, short.1);
              },
            )
            | inr mark ↦ (
              limit,
              left - 1,
              record {
                behind = omega arith;
                within = omega arith;
                counted = omega (arith, counted, short.1, mark_before objects limit from behind mark);
                stops =
                    let more : (1 < left) ⊎ (left ≤ 1) = cases_lt 1 left in
                    elim more [
                      | inl some ↦ inl (refl, omega arith)
                      | inr none ↦ inr (mark, omega arith)
                    ];
              },
            )
          ]
    ]

some_walk_back : (objects : List Object) (from far limit marks : ℕ) → limit + far ≡ from → from ≤ length objects
    → 1 ≤ marks
    → (at : ℕ) × (left : ℕ) × WalksBackward objects from limit marks at left
some_walk_back objects from zero limit marks sum inside some = (
  from,
  marks,
  record {
    behind = omega arith;
    within = omega arith;
    counted = omega (arith, none_between objects from);
    stops = inl (omega arith, some);
  },
)
some_walk_back objects from (suc far) limit marks sum inside some =
    let before : (at : ℕ) × (left : ℕ) × WalksBackward objects from (limit + 1) marks at left =
    some_walk_back objects from far (limit + 1) marks (omega arith) inside some in
    one_further_back objects from limit marks before.0 before.1 (omega arith) inside before.2

-- over blocks, forward and backward
some_blocks : (objects : List Object) (from count most : ℕ) → most ≤ count → from + most ≤ length objects
    → ((most ≡ count) ⊎ ((most < count) × (from + most ≡ length objects)))
    → (end : ℕ) × (stop : Stop) × (left : ℕ) × ForwardOverBlocks objects from count end stop left
some_blocks objects from count most fits inside why =
    let walk : (at : ℕ) × (left : ℕ) × WalksForward objects from (from + most) 1 at left =
    some_walk objects from most (from + most) 1 refl inside (omega arith) in
    elim walk.2.stops [
      | inr found ↦ (
        walk.0,
        AtMark,
        count - (walk.0 - from - 1),
        walk_to_mark objects from count most walk.0 walk.1 walk.0 AtMark _ walk.2 fits found.1 refl refl refl,
      )
      | inl limit ↦
          let none_met : ¬ (walk.1 ≡ 0) = λ met. omega (arith, met, limit.1) in
          elim why [
            | inl all ↦ (
              walk.0,
              Done,
              0,
              walk_of_all objects from count most walk.0 walk.1 walk.0 Done 0 walk.2 inside none_met all refl refl refl,
            )
            | inr short ↦ (
              walk.0,
              AtEnd,
              count - most,
              walk_to_end objects from count most walk.0 walk.1 walk.0 AtEnd _ walk.2
                  short.1 none_met short.0 refl refl refl,
            )
          ]
    ]

some_blocks_back : (objects : List Object) (from count most : ℕ) → from ≤ length objects → most ≤ from → most ≤ count
    → ((most ≡ count) ⊎ ((most < count) × (most ≡ from)))
    → (end : ℕ) × (stop : Stop) × (left : ℕ) × BackwardOverBlocks objects from count end stop left
some_blocks_back objects from count most inside low fits why =
    let walk : (at : ℕ) × (left : ℕ) × WalksBackward objects from (from - most) 1 at left =
    some_walk_back objects from most (from - most) 1 (omega arith) inside (omega arith) in
    elim walk.2.stops [
      | inr found ↦ (
        walk.0,
        AtMark,
        count - (from - walk.0 - 1),
        walk_back_to_mark objects from count most walk.0 walk.1 walk.0 AtMark _ walk.2
            inside low fits found.1 refl refl refl,
      )
      | inl limit ↦
          let none_met : ¬ (walk.1 ≡ 0) = λ met. omega (arith, met, limit.1) in
          elim why [
            | inl all ↦ (
              walk.0,
              Done,
              0,
              walk_back_of_all objects from count most walk.0 walk.1 walk.0 Done 0 walk.2
                  inside low none_met all refl refl refl,
            )
            | inr short ↦ (
              walk.0,
              AtStart,
              count - most,
              walk_back_to_start objects from count most walk.0 walk.1 walk.0 AtStart _ walk.2
                  inside short.1 none_met short.0 refl refl refl,
            )
          ]
    ]

blocks_end : (objects : List Object) (from count : ℕ) → from ≤ length objects
    → (end : ℕ) × (stop : Stop) × (left : ℕ) × ForwardOverBlocks objects from count end stop left
blocks_end objects from count inside =
    let which : (length objects - from < count) ⊎ (count ≤ length objects - from) =
    cases_lt (length objects - from) count in
    elim which [
      | inl short ↦
          some_blocks objects from count (length objects - from) (omega arith) (omega arith)
          (inr (short, omega arith))
      | inr fits ↦ some_blocks objects from count count (omega arith) (omega arith) (inl refl)
    ]

blocks_end_back : (objects : List Object) (from count : ℕ) → from ≤ length objects
    → (end : ℕ) × (stop : Stop) × (left : ℕ) × BackwardOverBlocks objects from count end stop left
blocks_end_back objects from count inside =
    let which : (from < count) ⊎ (count ≤ from) = cases_lt from count in
    elim which [
      | inl short ↦ some_blocks_back objects from count from inside (omega arith) (omega arith) (inr (short, refl))
      | inr fits ↦ some_blocks_back objects from count count inside fits (omega arith) (inl refl)
    ]

-- over filemarks
marks_end : (objects : List Object) (from count : ℕ) → from ≤ length objects → 1 ≤ count
    → (end : ℕ) × (stop : Stop) × (left : ℕ) × ForwardOverMarks objects from count end stop left
marks_end objects from count inside some =
    let walk : (at : ℕ) × (left : ℕ) × WalksForward objects from (length objects) count at left =
    some_walk objects from (length objects - from) (length objects) count (omega arith) (omega arith) some in
    elim walk.2.stops [
      | inr found ↦ (walk.0, Done, 0, (found.0, omega (arith, walk.2.counted, found.1), refl))
      | inl limit ↦ (walk.0, AtEnd, walk.1, (limit.0, walk.2.counted, limit.1))
    ]

marks_end_back : (objects : List Object) (from count : ℕ) → from ≤ length objects → 1 ≤ count
    → (end : ℕ) × (stop : Stop) × (left : ℕ) × BackwardOverMarks objects from count end stop left
marks_end_back objects from count inside some =
    let walk : (at : ℕ) × (left : ℕ) × WalksBackward objects from 0 count at left =
    some_walk_back objects from from 0 count (omega arith) inside some in
    elim walk.2.stops [
      | inr found ↦ (walk.0, Done, 0, (found.0, omega (arith, walk.2.counted, found.1), refl))
      | inl limit ↦ (walk.0, AtStart, walk.1, (limit.0, walk.2.counted, limit.1))
    ]

pub each_ends : EachSpaceEnds
each_ends objects from EndOfData count inside = (length objects, Done, 0, (refl, refl, refl))
each_ends objects from Blocks (pos zero) inside = (from, Done, 0, (refl, refl, refl))
each_ends objects from Blocks (pos (suc n)) inside = blocks_end objects from (n + 1) inside
each_ends objects from Blocks (negsuc n) inside = blocks_end_back objects from (n + 1) inside
each_ends objects from Filemarks (pos zero) inside = (from, Done, 0, (refl, refl, refl))
each_ends objects from Filemarks (pos (suc n)) inside = marks_end objects from (n + 1) inside (omega arith)
each_ends objects from Filemarks (negsuc n) inside = marks_end_back objects from (n + 1) inside (omega arith)
