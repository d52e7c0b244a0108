-- A disk with a fuse, as its contracts see it.
use Rattle.std.specs.Prelude.{◌≡◌, ℕ, ◌+◌, ◌-◌, OnErr, Result}
use Rattle.vtl_base.specs.declared.faults.DevFault.{DevFault}
use Rattle.tape_disk.specs.Disk.{DiskCall, DiskState}
use Rattle.tape_disk.specs.Faults.{CalledBelow, holds, with_failures}
use Rattle.tape_disk.specs.declared.fuse.FuseDisk.{FuseDisk}

module _ {D : Type 0} where
  -- the disk below (own)
  abbrev pub fuse_disk_below : FuseDisk D → D
  fuse_disk_below fuse = fuse.below.disk

  -- the calls that will pass (own)
  abbrev pub fuse_calls_left : FuseDisk D → ℕ
  fuse_calls_left fuse = fuse.left

  -- the state of the disk below, except for the failures (own)
  abbrev pub fuse_state : (D → DiskState) → FuseDisk D → DiskState
  fuse_state state fuse = with_failures (state fuse.below.disk) fuse.below.failures.count.value

  -- A call passes while some are left, and uses one up; each call that fails adds one failure (own).
  pub record FuseEffect (state : D → DiskState) (effect : DiskCall → Result Unit DevFault → D → D → Type 0)
      (call : DiskCall) (result : Result Unit DevFault) (old new : FuseDisk D) : Type 0 where
    pub below : CalledBelow state effect (holds (fuse_calls_left old)) call result
        (fuse_disk_below old) (fuse_disk_below new)
    pub left : fuse_calls_left new ≡ fuse_calls_left old - 1
    pub counted : OnErr result
        ((fuse_state state new).failures ≡ (fuse_state state old).failures + 1)
