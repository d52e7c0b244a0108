-- Calls of a file in a row that change nothing of it: reads, and bytes that are written again as they stand.
use Rattle.std.specs.Prelude.{◌≡◌, ℕ, ◌≤◌, List, Result}
use Rattle.vtl_base.specs.declared.faults.DevFault.{DevFault}
use Rattle.tape_disk.specs.Disk.{DiskCall, DiskState}
use Rattle.tape_disk.specs.Failures.{failure_count}
use Rattle.tape_disk.specs.Faults.{with_failures}
use Rattle.file_disk.specs.RawFile.{AddsNone, IsAsHonest, ReachesStill}
use Rattle.file_disk.specs.declared.looked.Looked.{Looked}

-- A read gives the same, and a crash leaves what it might have left before, at each moment (own).
pub record FileRests (old new : DiskState) : Type 0 where
  pub later : old.moment ≤ new.moment
  pub seen : new.seen ≡ old.seen
  pub crash : (image : List ℕ) → new.may_leave image → old.may_leave image
  pub nothing : (t : ℕ) (image : List ℕ) → t ≤ old.moment → new.left_since t image → old.left_since t image
  pub keeps : (t : ℕ) (image : List ℕ) → t ≤ old.moment → old.left_since t image → new.left_since t image

-- the state of a file that is only read, with a count of failures of its own (own)
abbrev pub looked_state : {F : Type 0} → (F → DiskState) → Looked F → DiskState
looked_state state looked = with_failures (state looked.file) (failure_count looked.failures)

module _ {F : Type 0} (state : F → DiskState) (passed_over unsynced : F → ℕ → Type 0) where
  -- nothing of the file changed, and a sync passes over no place that it did not pass over before (own)
  pub record Rested (old new : F) : Type 0 where
    pub honesty : IsAsHonest (state old) (state new)
    pub rests : (state old).honest → FileRests (state old) (state new)
    pub reaches : (state old).honest → ReachesStill (passed_over old) (passed_over new)

  -- the file was only read (own)
  pub record OnlyReadFile (old new : F) : Type 0 where
    pub rested : Rested old new
    pub adds_none : (state old).honest → AddsNone (unsynced old) (unsynced new)

  -- each call only reads the file, whatever it is (own)
  abbrev pub ReadsOnly : DiskCall → Result Unit DevFault → Looked F → Looked F → Type 0
  ReadsOnly call result old new = OnlyReadFile old.file new.file
