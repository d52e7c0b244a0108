-- The first call of a disk in an append.
use Rattle.std.specs.Prelude.{ℕ, Result}
use Rattle.vtl_base.specs.declared.faults.DevFault.{DevFault}
use Rattle.tape_disk.specs.Disk.{DiskCall, CutAt}

module _ {D : Type 0} (effect : DiskCall → Result Unit DevFault → D → D → Type 0) where
  -- the first call of the disk was a cut there, with the effect that the disk states (own)
  abbrev pub CutsFirst : ℕ → D → Type 0
  CutsFirst len old = (mid : D) × (result : Result Unit DevFault) × effect (CutAt len) result old mid
