-- What a function leaves of each value in a list.
use Rattle.std.specs.Prelude.{ℕ, ◌<◌, List, length, slice_index_or}
use Rattle.std.specs.Fork.{ChangesAt}
use denote.Ref.{MutBor}
use denote.Param.Members.{Shared}

module _ {F T : Type 0} (g : Shared F (ℕ × (MutBor T × Unit {0})) ((Unit {0}) × (MutBor T × Unit {0}))) (f : F) where
  -- a call with the number 0 changed each old value into the new one at its place
  pub record ChangesAll (old new : List T) : Type 0 where
    pub each : (i : ℕ) (d : T) → i < length old → ChangesAt g f 0 (slice_index_or old i d) (slice_index_or new i d)
