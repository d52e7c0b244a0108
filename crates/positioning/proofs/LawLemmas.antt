-- No motion has a second end, and each has only suitable causes.
use Rattle.std.proofs.Common.{◌≡◌, ◌≤◌, ◌<◌, ◌+◌, ◌-◌, ◌⊎◌, ◌↔◌, ℕ, pos, negsuc, suc, zero, List, length, count_by, take, drop, inl, inr, refl, ap, sym, ◌∙◌, arith}
use Rattle.std.proofs.lemmas.Bool.{cases_lt}
use Rattle.volume_core.specs.declared.objects.Object.{Object}
use Rattle.vtl_base.specs.declared.space_codes.SpaceCode.TheVariants.{Blocks, Filemarks, EndOfData}
use Rattle.positioning.specs.declared.positions.Stop.{Stop}
use Rattle.positioning.specs.declared.positions.Stop.TheVariants.{Done, AtMark, AtEnd, AtStart}
use Rattle.volume_core.specs.Volume.{is_mark}
use Rattle.positioning.specs.Motion.{IsMarkAt, IsBehindMark, AreBlocksFrom, AreBlocksBefore, IsGreatest, EndsForward, EndsBackward, ForwardOverMarks, BackwardOverMarks, Reaches, marks_between}
use Rattle.positioning.specs.Laws.{NoSpaceEndsTwice, ForwardMeetsNoStart, BackwardMeetsNoEnd, FilemarksStopNone, OnlyDoneLeavesNothing, EachLocateEnds, NoLocateEndsTwice}
use Rattle.positioning.proofs.MarkLemmas.{mark_inside, marks_split, mark_behind, mark_before}

-- there is one greatest number
one_greatest : (bound : ℕ) (Has : ℕ → Type 0) (m n : ℕ) → IsGreatest bound Has m → IsGreatest bound Has n → m ≡ n
one_greatest bound Has m n first second =
    omega (arith, first.greatest n second.within second.has, second.greatest m first.within first.has)

same_forward : (objects : List Object) (from count m n end : ℕ) (stop : Stop) (left other : ℕ) (cause : Stop) (rest : ℕ)
    → m ≡ n → EndsForward objects from count m end stop left → EndsForward objects from count n other cause rest
    → (end ≡ other) × (stop ≡ cause) × (left ≡ rest)
same_forward objects from count m n end Done left other Done rest e a b =
    (omega (arith, a, b), refl, omega (arith, a, b))
same_forward objects from count m n end Done left other AtEnd rest e a b = absurd (omega (arith, a.0, b.0))
same_forward objects from count m n end Done left other AtMark rest e a b = absurd (omega (arith, a.0, b.0))
same_forward objects from count m n end AtEnd left other Done rest e a b = absurd (omega (arith, a.0, b.0))
same_forward objects from count m n end AtEnd left other AtEnd rest e a b =
    (a.2 ∙ sym b.2, refl, omega (arith, a.3, b.3))
same_forward objects from count m n end AtEnd left other AtMark rest e a b =
    absurd (omega (arith, a.1, mark_inside objects (from + n) b.1))
same_forward objects from count m n end AtMark left other Done rest e a b = absurd (omega (arith, a.0, b.0))
same_forward objects from count m n end AtMark left other AtEnd rest e a b =
    absurd (omega (arith, b.1, mark_inside objects (from + m) a.1))
same_forward objects from count m n end AtMark left other AtMark rest e a b =
    (omega (arith, a.2, b.2), refl, omega (arith, a.3, b.3))
same_forward objects from count m n end AtStart left other cause rest e a b = absurd a
same_forward objects from count m n end stop left other AtStart rest e a b = absurd b

same_backward : (objects : List Object) (from count m n end : ℕ) (stop : Stop) (left other : ℕ) (cause : Stop)
    (rest : ℕ)
    → m ≡ n → EndsBackward objects from count m end stop left → EndsBackward objects from count n other cause rest
    → (end ≡ other) × (stop ≡ cause) × (left ≡ rest)
same_backward objects from count m n end Done left other Done rest e a b =
    (omega (arith, a, b), refl, omega (arith, a, b))
same_backward objects from count m n end Done left other AtStart rest e a b = absurd (omega (arith, a.0, b.0))
same_backward objects from count m n end Done left other AtMark rest e a b = absurd (omega (arith, a.0, b.0))
same_backward objects from count m n end AtStart left other Done rest e a b = absurd (omega (arith, a.0, b.0))
same_backward objects from count m n end AtStart left other AtStart rest e a b =
    (a.2 ∙ sym b.2, refl, omega (arith, a.3, b.3))
same_backward objects from count m n end AtStart left other AtMark rest e a b = absurd (omega (arith, a.1, b.2))
same_backward objects from count m n end AtMark left other Done rest e a b = absurd (omega (arith, a.0, b.0))
same_backward objects from count m n end AtMark left other AtStart rest e a b = absurd (omega (arith, a.2, b.1))
same_backward objects from count m n end AtMark left other AtMark rest e a b =
    (omega (arith, a.2, b.2), refl, omega (arith, a.3, b.3))
same_backward objects from count m n end AtEnd left other cause rest e a b = absurd a
same_backward objects from count m n end stop left other AtEnd rest e a b = absurd b

-- a place further on, directly after a filemark, has more filemarks before it
none_back : (objects : List Object) (from to : ℕ) → to ≤ from → marks_between objects from to ≡ 0
none_back objects from to back =
    let none : to - from ≡ 0 = omega arith in
    ap (λ (n : ℕ). count_by is_mark (take n (drop from objects))) none

more_behind : (objects : List Object) (from near far count : ℕ) → from ≤ near → near < far → IsBehindMark objects far
    → marks_between objects from near ≡ count → marks_between objects from far ≡ count → ⊥
more_behind objects from near far count ahead less behind a b =
    let mark : ℕ = behind.0 in
    let place : far ≡ mark + 1 = behind.1 in
    let counted : marks_between objects from (mark + 1) ≡ count = rw place at b in
    omega (
      arith,
      a,
      counted,
      mark_behind objects from mark (omega arith) behind.2,
      marks_split objects from near mark ahead (omega arith),
    )

more_before : (objects : List Object) (from near far count : ℕ) → near ≤ from → far < near → IsMarkAt objects far
    → marks_between objects near from ≡ count → marks_between objects far from ≡ count → ⊥
more_before objects from near far count ahead less mark a b =
    omega (
      arith,
      a,
      b,
      mark_before objects far from (omega arith) mark,
      marks_split objects (far + 1) near from (omega arith) ahead,
    )

-- a place that has this many filemarks before it is ahead
ahead_of : (objects : List Object) (from to count : ℕ) → marks_between objects from to ≡ count → 1 ≤ count → from ≤ to
ahead_of objects from to count counted some =
    let which : (to < from) ⊎ (from ≤ to) = cases_lt to from in
    elim which [
      | inl back ↦ absurd (omega (arith, counted, none_back objects from to (omega arith)))
      | inr ahead ↦ ahead
    ]

one_behind : (objects : List Object) (from a b count : ℕ) → 1 ≤ count → IsBehindMark objects a → IsBehindMark objects b
    → marks_between objects from a ≡ count → marks_between objects from b ≡ count → a ≡ b
one_behind objects from a b count some first second counted again =
    let less : a < b → ⊥ =
    λ h. more_behind objects from a b count (ahead_of objects from a count counted some) h second counted again in
    let more : b < a → ⊥ =
    λ h. more_behind objects from b a count (ahead_of objects from b count again some) h first again counted in
    omega (arith, less, more)

one_before : (objects : List Object) (from a b count : ℕ) → 1 ≤ count → IsMarkAt objects a → IsMarkAt objects b
    → marks_between objects a from ≡ count → marks_between objects b from ≡ count → a ≡ b
one_before objects from a b count some first second counted again =
    let less : a < b → ⊥ =
    λ h. more_before objects from b a count (ahead_of objects b from count again some) h first again counted in
    let more : b < a → ⊥ =
    λ h. more_before objects from a b count (ahead_of objects a from count counted some) h second counted again in
    omega (arith, less, more)

-- where this many filemarks come before a place, at least as many come before the end of data, or after the start
enough_ahead : (objects : List Object) (from a count left : ℕ) → 1 ≤ count → 1 ≤ left → IsBehindMark objects a
    → marks_between objects from a ≡ count → marks_between objects from (length objects) + left ≡ count → ⊥
enough_ahead objects from a count left some rest behind counted short =
    let inside : behind.0 < length objects = mark_inside objects behind.0 behind.2 in
    omega (
      arith,
      counted,
      short,
      behind.1,
      marks_split objects from a (length objects) (ahead_of objects from a count counted some)
          (omega (arith, behind.1)),
    )

enough_before : (objects : List Object) (from a count left : ℕ) → 1 ≤ count → 1 ≤ left
    → marks_between objects a from ≡ count → marks_between objects 0 from + left ≡ count → ⊥
enough_before objects from a count left some rest counted short =
    omega (
      arith,
      counted,
      short,
      marks_split objects 0 a from (omega arith) (ahead_of objects a from count counted some),
    )

same_marks : (objects : List Object) (from count end : ℕ) (stop : Stop) (left other : ℕ) (cause : Stop) (rest : ℕ)
    → 1 ≤ count → ForwardOverMarks objects from count end stop left
    → ForwardOverMarks objects from count other cause rest
    → (end ≡ other) × (stop ≡ cause) × (left ≡ rest)
same_marks objects from count end Done left other Done rest some a b =
    (one_behind objects from end other count some a.0 b.0 a.1 b.1, refl, a.2 ∙ sym b.2)
same_marks objects from count end Done left other AtEnd rest some a b =
    let short : marks_between objects from (length objects) + rest ≡ count = rw b.0 at b.1 in
    absurd (enough_ahead objects from end count rest some b.2 a.0 a.1 short)
same_marks objects from count end AtEnd left other Done rest some a b =
    let short : marks_between objects from (length objects) + left ≡ count = rw a.0 at a.1 in
    absurd (enough_ahead objects from other count left some a.2 b.0 b.1 short)
same_marks objects from count end AtEnd left other AtEnd rest some a b =
    let first : marks_between objects from (length objects) + left ≡ count = rw a.0 at a.1 in
    let second : marks_between objects from (length objects) + rest ≡ count = rw b.0 at b.1 in
    (a.0 ∙ sym b.0, refl, omega (arith, first, second))
same_marks objects from count end AtMark left other cause rest some a b = absurd a
same_marks objects from count end AtStart left other cause rest some a b = absurd a
same_marks objects from count end stop left other AtMark rest some a b = absurd b
same_marks objects from count end stop left other AtStart rest some a b = absurd b

same_marks_back : (objects : List Object) (from count end : ℕ) (stop : Stop) (left other : ℕ) (cause : Stop) (rest : ℕ)
    → 1 ≤ count → BackwardOverMarks objects from count end stop left
    → BackwardOverMarks objects from count other cause rest
    → (end ≡ other) × (stop ≡ cause) × (left ≡ rest)
same_marks_back objects from count end Done left other Done rest some a b =
    (one_before objects from end other count some a.0 b.0 a.1 b.1, refl, a.2 ∙ sym b.2)
same_marks_back objects from count end Done left other AtStart rest some a b =
    let short : marks_between objects 0 from + rest ≡ count = rw b.0 at b.1 in
    absurd (enough_before objects from end count rest some b.2 a.1 short)
same_marks_back objects from count end AtStart left other Done rest some a b =
    let short : marks_between objects 0 from + left ≡ count = rw a.0 at a.1 in
    absurd (enough_before objects from other count left some a.2 b.1 short)
same_marks_back objects from count end AtStart left other AtStart rest some a b =
    let first : marks_between objects 0 from + left ≡ count = rw a.0 at a.1 in
    let second : marks_between objects 0 from + rest ≡ count = rw b.0 at b.1 in
    (a.0 ∙ sym b.0, refl, omega (arith, first, second))
same_marks_back objects from count end AtMark left other cause rest some a b = absurd a
same_marks_back objects from count end AtEnd left other cause rest some a b = absurd a
same_marks_back objects from count end stop left other AtMark rest some a b = absurd b
same_marks_back objects from count end stop left other AtEnd rest some a b = absurd b

same_place : (place end : ℕ) (stop : Stop) (left other : ℕ) (cause : Stop) (rest : ℕ)
    → Reaches place end stop left → Reaches place other cause rest → (end ≡ other) × (stop ≡ cause) × (left ≡ rest)
same_place place end stop left other cause rest a b = (a.0 ∙ sym b.0, a.1 ∙ sym b.1, a.2 ∙ sym b.2)

pub no_second_end : NoSpaceEndsTwice
no_second_end objects from EndOfData count end stop left other cause rest a b =
    same_place (length objects) end stop left other cause rest a b
no_second_end objects from Blocks (pos zero) end stop left other cause rest a b =
    same_place from end stop left other cause rest a b
no_second_end objects from Blocks (pos (suc n)) end stop left other cause rest a b =
    same_forward objects from (n + 1) a.0 b.0 end stop left other cause rest
    (one_greatest (n + 1) (AreBlocksFrom objects from) a.0 b.0 a.1 b.1) a.2 b.2
no_second_end objects from Blocks (negsuc n) end stop left other cause rest a b =
    same_backward objects from (n + 1) a.0 b.0 end stop left other cause rest
    (one_greatest (n + 1) (AreBlocksBefore objects from) a.0 b.0 a.1 b.1) a.2 b.2
no_second_end objects from Filemarks (pos zero) end stop left other cause rest a b =
    same_place from end stop left other cause rest a b
no_second_end objects from Filemarks (pos (suc n)) end stop left other cause rest a b =
    same_marks objects from (n + 1) end stop left other cause rest (omega arith) a b
no_second_end objects from Filemarks (negsuc n) end stop left other cause rest a b =
    same_marks_back objects from (n + 1) end stop left other cause rest (omega arith) a b

pub forward_no_start : ForwardMeetsNoStart
forward_no_start objects from EndOfData size end left ends = (cc)
forward_no_start objects from Blocks zero end left ends = (cc)
forward_no_start objects from Blocks (suc n) end left ends = ends.2
forward_no_start objects from Filemarks zero end left ends = (cc)
forward_no_start objects from Filemarks (suc n) end left ends = ends

pub backward_no_end : BackwardMeetsNoEnd
backward_no_end objects from EndOfData size end left ends = (cc)
backward_no_end objects from Blocks size end left ends = ends.2
backward_no_end objects from Filemarks size end left ends = ends

pub filemarks_stop_none : FilemarksStopNone
filemarks_stop_none objects from (pos zero) end left ends = (cc)
filemarks_stop_none objects from (pos (suc n)) end left ends = ends
filemarks_stop_none objects from (negsuc n) end left ends = ends

-- done, and nothing left; or neither
both : {P Q : Type 0} → P → Q → P ↔ Q
both p q = (λ _. q, λ _. p)

neither : {P Q : Type 0} → ¬ P → ¬ Q → P ↔ Q
neither p q = (λ h. absurd (p h), λ h. absurd (q h))

pub only_done_leaves_nothing : OnlyDoneLeavesNothing
only_done_leaves_nothing objects from EndOfData count end stop left ends = both ends.1 ends.2
only_done_leaves_nothing objects from Blocks (pos zero) end stop left ends = both ends.1 ends.2
only_done_leaves_nothing objects from Blocks (pos (suc n)) end Done left ends = both refl ends.2.2
only_done_leaves_nothing objects from Blocks (pos (suc n)) end AtEnd left ends =
    neither (λ h. (cc)) (λ h. omega (arith, h, ends.2))
only_done_leaves_nothing objects from Blocks (pos (suc n)) end AtMark left ends =
    neither (λ h. (cc)) (λ h. omega (arith, h, ends.2.0, ends.2.3))
only_done_leaves_nothing objects from Blocks (pos (suc n)) end AtStart left ends = absurd ends.2
only_done_leaves_nothing objects from Blocks (negsuc n) end Done left ends = both refl ends.2.2
only_done_leaves_nothing objects from Blocks (negsuc n) end AtStart left ends =
    neither (λ h. (cc)) (λ h. omega (arith, h, ends.2))
only_done_leaves_nothing objects from Blocks (negsuc n) end AtMark left ends =
    neither (λ h. (cc)) (λ h. omega (arith, h, ends.2.0, ends.2.3))
only_done_leaves_nothing objects from Blocks (negsuc n) end AtEnd left ends = absurd ends.2
only_done_leaves_nothing objects from Filemarks (pos zero) end stop left ends = both ends.1 ends.2
only_done_leaves_nothing objects from Filemarks (pos (suc n)) end Done left ends = both refl ends.2
only_done_leaves_nothing objects from Filemarks (pos (suc n)) end AtEnd left ends =
    neither (λ h. (cc)) (λ h. omega (arith, h, ends.2))
only_done_leaves_nothing objects from Filemarks (pos (suc n)) end AtMark left ends = absurd ends
only_done_leaves_nothing objects from Filemarks (pos (suc n)) end AtStart left ends = absurd ends
only_done_leaves_nothing objects from Filemarks (negsuc n) end Done left ends = both refl ends.2
only_done_leaves_nothing objects from Filemarks (negsuc n) end AtStart left ends =
    neither (λ h. (cc)) (λ h. omega (arith, h, ends.2))
only_done_leaves_nothing objects from Filemarks (negsuc n) end AtMark left ends = absurd ends
only_done_leaves_nothing objects from Filemarks (negsuc n) end AtEnd left ends = absurd ends

-- and LOCATE
pub each_locate : EachLocateEnds
each_locate objects to =
    let which : (length objects < to) ⊎ (to ≤ length objects) = cases_lt (length objects) to in
    elim which [
      | inl short ↦ (length objects, AtEnd, 0, (short, refl, refl))
      | inr fits ↦ (to, Done, 0, (fits, refl, refl))
    ]

pub no_second_locate : NoLocateEndsTwice
no_second_locate objects to end Done left other Done rest a b = (a.1 ∙ sym b.1, refl, a.2 ∙ sym b.2)
no_second_locate objects to end Done left other AtEnd rest a b = absurd (omega (arith, a.0, b.0))
no_second_locate objects to end AtEnd left other Done rest a b = absurd (omega (arith, a.0, b.0))
no_second_locate objects to end AtEnd left other AtEnd rest a b = (a.1 ∙ sym b.1, refl, a.2 ∙ sym b.2)
no_second_locate objects to end AtMark left other cause rest a b = absurd a
no_second_locate objects to end AtStart left other cause rest a b = absurd a
no_second_locate objects to end stop left other AtMark rest a b = absurd b
no_second_locate objects to end stop left other AtStart rest a b = absurd b
