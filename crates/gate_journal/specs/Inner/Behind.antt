-- How frames behind the end of a side are found.
use Rattle.std.specs.Prelude.{◌↔◌, ℕ, ◌+◌, drop, Bool, Result, Ok, Err, IsTrue}
use Rattle.vtl_base.specs.declared.faults.DevFault.{DevFault}
use Rattle.tape_disk.specs.Disk.{DiskState}
use Rattle.gate_journal.specs.Answers.{IsFault, NoneFailed}
use Rattle.gate_journal.specs.Behind.{HidesFrames}

-- whether frames stand behind the gate at that place; or a fault (own)
abbrev pub FindsHidden : Result Bool DevFault → ℕ → DiskState → DiskState → Type 0
FindsHidden (Ok found) at old new =
    NoneFailed old new × (old.honest → IsTrue found ↔ HidesFrames (drop (at + 1) old.seen))
FindsHidden (Err fault) at old new = IsFault fault old new
