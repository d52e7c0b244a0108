-- What a crash may leave while a frame is added, and what a disk that was only read leaves.
use Rattle.std.specs.Prelude.{◌≡◌, ◌⊎◌, ℕ, List, [], ◌∷◌, ◌++◌}
use Rattle.tape_disk.specs.Disk.{DiskState}
use Rattle.tape_disk.specs.Moments.{LeavesOnly}
use Rattle.gate_journal.specs.Side.{Front, StandsFor}

-- the image stands for the bodies, with the new one or without (own)
abbrev pub WithOrWithout : Front → List (List ℕ) → List ℕ → List ℕ → Type 0
WithOrWithout front bodies body image = StandsFor front bodies image ⊎ StandsFor front (bodies ++ body ∷ []) image

-- Nothing was written from old to new: reads return the same bytes, and a crash leaves only what it might have left
-- before (own).
pub record Unwritten (old new : DiskState) : Type 0 where
  pub seen : new.seen ≡ old.seen
  pub images : (image : List ℕ) → new.may_leave image → old.may_leave image
  pub moments : LeavesOnly old new old.may_leave
