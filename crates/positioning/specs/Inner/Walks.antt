-- How far a walk over filemarks goes.
use Rattle.std.specs.Prelude.{◌≡◌, ◌≤◌, ◌+◌, ◌⊎◌, ℕ, List}
use Rattle.volume_core.specs.declared.objects.Object.{Object}
use Rattle.positioning.specs.Motion.{IsMarkAt, IsBehindMark, marks_between}

-- A walk forward ends directly after the last of `marks` filemarks, or at a limit with fewer before it (own).
pub record WalksForward (objects : List Object) (from limit marks at left : ℕ) : Type 0 where
  pub ahead : from ≤ at
  pub within : at ≤ limit
  pub counted : marks_between objects from at + left ≡ marks
  pub stops : ((at ≡ limit) × (1 ≤ left)) ⊎ (IsBehindMark objects at × (left ≡ 0))

-- A walk backward ends directly before the last of `marks` filemarks, or at a limit with fewer after it (own).
pub record WalksBackward (objects : List Object) (from limit marks at left : ℕ) : Type 0 where
  pub behind : at ≤ from
  pub within : limit ≤ at
  pub counted : marks_between objects at from + left ≡ marks
  pub stops : ((at ≡ limit) × (1 ≤ left)) ⊎ (IsMarkAt objects at × (left ≡ 0))
