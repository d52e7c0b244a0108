-- Disks that fail on purpose, over another disk.
use Rattle.std.specs.Prelude.{ℕ, ◌-◌, ◌==◌, nat_lt, Bool, true, false, if◌then◌else◌, Option, None, Some, Result, Ok, Err, IsOk, IsErr}
use Rattle.vtl_base.specs.declared.faults.DevFault.{DevFault}
use Rattle.tape_disk.specs.Disk.{DiskCall, ReadAt, DiskState, IsDisk, Passes, Same}

-- the state of such a disk: that of the disk below, with a count of failures of its own (own)
abbrev pub with_failures : DiskState → ℕ → DiskState
with_failures below failures = record below { failures = failures }

-- a disk that counts its own failures obeys the laws of the disk below
pub is_disk_over : (below : DiskState) (failures : ℕ) → IsDisk below → IsDisk (with_failures below failures)
is_disk_over below failures is_disk = record {
  reads = is_disk.reads;
  counts_now = is_disk.counts_now;
  only_now = is_disk.only_now;
}

-- both are Ok, or both are errors (own)
abbrev pub HasOutcomeOf : Result Unit DevFault → Result Unit DevFault → Type 0
HasOutcomeOf (Ok done) result = IsOk result
HasOutcomeOf (Err fault) result = IsErr result

module _ {D : Type 0} (state : D → DiskState) (effect : DiskCall → Result Unit DevFault → D → D → Type 0) where
  -- The disk below was called once, with this result (own).
  pub record CalledOnce (call : DiskCall) (answer : Result Unit DevFault) (old new : D) : Type 0 where
    pub counted : Passes (state old) (state new) answer
    pub did : effect call answer old new

  -- A call that passes is made below, and has the same outcome. One that does not pass is an error: the disk below
  -- stays, and is asked for no bytes (own).
  abbrev pub CalledBelow : Bool → DiskCall → Result Unit DevFault → D → D → Type 0
  CalledBelow true call result old new =
      (answer : Result Unit DevFault) × CalledOnce call answer old new × HasOutcomeOf answer result
  CalledBelow false call result old new =
      IsErr result × ((state old).honest → Same (state old) (state new))
      × ((answer : Result Unit DevFault) × CalledOnce (ReadAt 0 0) answer old new)

-- a fuse with this many calls left lets one pass (own)
abbrev pub holds : ℕ → Bool
holds left = nat_lt 0 left

-- the next call is the one that fails: this many pass before it; None once it has failed (own)
abbrev pub is_due : Option ℕ → Bool
is_due None = false
is_due (Some left) = left == 0

-- the same after one more call (own)
abbrev pub after_call : Option ℕ → Option ℕ
after_call None = None
after_call (Some left) = if left == 0 then None else Some (left - 1)
