-- A disk of which one call fails, as its contracts see it.
use Rattle.std.specs.Prelude.{◌≡◌, ℕ, ◌+◌, not, OnErr, Option, Result}
use Rattle.vtl_base.specs.declared.faults.DevFault.{DevFault}
use Rattle.tape_disk.specs.Disk.{DiskCall, DiskState}
use Rattle.tape_disk.specs.Faults.{CalledBelow, is_due, after_call, with_failures}
use Rattle.tape_disk.specs.declared.once.OnceDisk.{OnceDisk}

module _ {D : Type 0} where
  -- the disk below (own)
  abbrev pub once_disk_below : OnceDisk D → D
  once_disk_below once = once.below.disk

  -- the calls that pass before the one that fails; None once it has failed (own)
  abbrev pub once_calls_left : OnceDisk D → Option ℕ
  once_calls_left once = once.left

  -- the state of the disk below, except for the failures (own)
  abbrev pub once_state : (D → DiskState) → OnceDisk D → DiskState
  once_state state once = with_failures (state once.below.disk) once.below.failures.count.value

  -- A call passes unless it is the one that is to fail; each call that fails adds one failure (own).
  pub record OnceEffect (state : D → DiskState) (effect : DiskCall → Result Unit DevFault → D → D → Type 0)
      (call : DiskCall) (result : Result Unit DevFault) (old new : OnceDisk D) : Type 0 where
    pub below : CalledBelow state effect (not (is_due (once_calls_left old))) call result
        (once_disk_below old) (once_disk_below new)
    pub left : once_calls_left new ≡ after_call (once_calls_left old)
    pub counted : OnErr result
        ((once_state state new).failures ≡ (once_state state old).failures + 1)
