-- Laws of motions.
use Rattle.std.specs.Prelude.{◌≡◌, ◌≤◌, ◌↔◌, ℕ, ℤ, pos, negsuc, List, length}
use Rattle.volume_core.specs.declared.objects.Object.{Object}
use Rattle.vtl_base.specs.declared.space_codes.SpaceCode.{SpaceCode}
use Rattle.vtl_base.specs.declared.space_codes.SpaceCode.TheVariants.{Filemarks}
use Rattle.positioning.specs.declared.positions.Stop.{Stop}
use Rattle.positioning.specs.declared.positions.Stop.TheVariants.{Done, AtMark, AtEnd, AtStart}
use Rattle.positioning.specs.Motion.{LocatesTo, SpacesTo}

-- from each place on a tape, with any code and count, SPACE has an end (own)
abbrev pub EachSpaceEnds : Type 0
EachSpaceEnds =
    (objects : List Object) (from : ℕ) (code : SpaceCode) (count : ℤ) → from ≤ length objects
    → (end : ℕ) × (stop : Stop) × (left : ℕ) × SpacesTo objects from code count end stop left

-- SPACE has at most one end (own)
abbrev pub NoSpaceEndsTwice : Type 0
NoSpaceEndsTwice =
    (objects : List Object) (from : ℕ) (code : SpaceCode) (count : ℤ)
    (end : ℕ) (stop : Stop) (left : ℕ) (other : ℕ) (cause : Stop) (rest : ℕ)
    → SpacesTo objects from code count end stop left
    → SpacesTo objects from code count other cause rest
    → (end ≡ other) × (stop ≡ cause) × (left ≡ rest)

-- SPACE forward never meets the beginning of the partition (own)
abbrev pub ForwardMeetsNoStart : Type 0
ForwardMeetsNoStart =
    (objects : List Object) (from : ℕ) (code : SpaceCode) (size end left : ℕ)
    → SpacesTo objects from code (pos size) end AtStart left → ⊥

-- SPACE backward never meets the end of data (own)
abbrev pub BackwardMeetsNoEnd : Type 0
BackwardMeetsNoEnd =
    (objects : List Object) (from : ℕ) (code : SpaceCode) (size end left : ℕ)
    → SpacesTo objects from code (negsuc size) end AtEnd left → ⊥

-- SPACE over filemarks never stops because of one (own)
abbrev pub FilemarksStopNone : Type 0
FilemarksStopNone =
    (objects : List Object) (from : ℕ) (count : ℤ) (end left : ℕ)
    → SpacesTo objects from Filemarks count end AtMark left → ⊥

-- nothing of the count is left exactly where the motion was completed (own)
abbrev pub OnlyDoneLeavesNothing : Type 0
OnlyDoneLeavesNothing =
    (objects : List Object) (from : ℕ) (code : SpaceCode) (count : ℤ) (end : ℕ) (stop : Stop) (left : ℕ)
    → SpacesTo objects from code count end stop left → (stop ≡ Done) ↔ (left ≡ 0)

-- LOCATE to any object has an end (own)
abbrev pub EachLocateEnds : Type 0
EachLocateEnds =
    (objects : List Object) (to : ℕ)
    → (end : ℕ) × (stop : Stop) × (left : ℕ) × LocatesTo objects to end stop left

-- LOCATE has at most one end (own)
abbrev pub NoLocateEndsTwice : Type 0
NoLocateEndsTwice =
    (objects : List Object) (to end : ℕ) (stop : Stop) (left other : ℕ) (cause : Stop) (rest : ℕ)
    → LocatesTo objects to end stop left → LocatesTo objects to other cause rest
    → (end ≡ other) × (stop ≡ cause) × (left ≡ rest)
