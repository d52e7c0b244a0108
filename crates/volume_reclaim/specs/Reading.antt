-- Blocks are read where they lie on a disk, and nothing is written.
use Rattle.std.specs.Prelude.{◌≡◌, ◌<◌, ◌≤◌, ◌+◌, ℕ, List, length, slice_range}
use Rattle.vtl_base.specs.declared.layout.TheConstants.{BEGUN_BYTES}
use Rattle.vtl_base.specs.declared.faults.DevFault.{DevFault}
use Rattle.tape_disk.specs.Disk.{DiskState, Keeps}
use Rattle.gate_journal.specs.Answers.{IsFault, NoneFailed}
use Rattle.gate_journal.specs.Crash.{Unwritten}

-- the block lies at that place of the bytes, after the first ten of a side (own)
pub record LiesAtPlace (seen block : List ℕ) (place : ℕ) : Type 0 where
  pub behind : BEGUN_BYTES < place
  pub inside : place + length block ≤ length seen
  pub there : slice_range seen place (place + length block) ≡ block

-- over an honest disk the block lies at that place (own)
abbrev pub LiesOnDisk : DiskState → List ℕ → ℕ → Type 0
LiesOnDisk disk block place = disk.honest → LiesAtPlace disk.seen block place

-- the disk was read, and nothing was written; no call failed (own)
pub record OnlyRead (old new : DiskState) : Type 0 where
  pub keeps : Keeps old new
  pub none_failed : NoneFailed old new
  pub unwritten : old.honest → Unwritten old new

-- the disk was read, and nothing was written, until a call failed (own)
pub record ReadUntilFault (old : DiskState) (fault : DevFault) (new : DiskState) : Type 0 where
  pub keeps : Keeps old new
  pub failed : IsFault fault old new
  pub unwritten : old.honest → Unwritten old new
