-- Calls of a file in a row.
use Rattle.std.specs.Prelude.{◌≡◌, ◌⊎◌, ℕ, ◌+◌, ◌≤◌, List, length, take, slice_range}
use Rattle.tape_disk.specs.Disk.{DiskState, Follows, Same, Smeared, overwritten}

-- Time that passed in this many calls at least: a crash since t might have left what it might have left before,
-- or what it may leave now (own).
pub record Ran (calls : ℕ) (old new : DiskState) : Type 0 where
  pub later : old.moment + calls ≤ new.moment
  pub nothing_else : (t : ℕ) (image : List ℕ) → t ≤ old.moment →
      new.left_since t image → old.left_since t image ⊎ new.may_leave image
  pub keeps : (t : ℕ) (image : List ℕ) → t ≤ old.moment → old.left_since t image → new.left_since t image

-- the first of the bytes from a place on were read (own)
pub record HasRead (calls at done : ℕ) (buffer : List ℕ) (old new : DiskState) : Type 0 where
  pub ran : Ran calls old new
  pub same : Same old new
  pub bytes : take done buffer ≡ slice_range old.seen at (at + done)

-- the first of the bytes were written from a place on (own)
pub record HasTransferred (calls at done : ℕ) (bytes : List ℕ) (old new : DiskState) : Type 0 where
  pub ran : Ran calls old new
  pub seen : new.seen ≡ overwritten at (take done bytes) old.seen
  pub smeared : Smeared at (length bytes) old.seen new.seen
  pub crash : Follows (Smeared at (length bytes)) old.may_leave new.may_leave
  pub keeps : (image : List ℕ) → old.may_leave image → new.may_leave image
