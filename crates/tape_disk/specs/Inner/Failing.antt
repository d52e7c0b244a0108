-- The state of a disk that fails on purpose, read from its fields.
use Rattle.tape_disk.specs.Disk.{DiskState}
use Rattle.tape_disk.specs.Faults.{with_failures}
use Rattle.tape_disk.specs.declared.failing.Failing.{Failing}

module _ {D : Type 0} (state : D → DiskState) where
  -- the state of the disk below, except for the failures (own)
  abbrev pub failing_state : Failing D → DiskState
  failing_state failing = with_failures (state failing.disk) failing.failures.count.value
