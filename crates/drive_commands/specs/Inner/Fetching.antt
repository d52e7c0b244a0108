-- The bytes of a block, as a part of READ.
use Rattle.std.specs.Prelude.{◌≡◌, Result, Ok, Err}
use Rattle.volume_core.specs.Medium.{MediumState, after_failed_read}
use Rattle.drive_commands.specs.declared.faults.Fault.{Fault}
use Rattle.drive_commands.specs.declared.faults.Fault.TheVariants.{NoMemory, Reading}

-- the bytes of a block are fetched, or memory runs out, or the device fails
abbrev pub FetchesBlock : {R : Type 0} → MediumState → Result R Fault → MediumState → Type 0
FetchesBlock old (Ok block) new = new ≡ old
FetchesBlock old (Err NoMemory) new = new ≡ old
FetchesBlock old (Err Reading) new = new ≡ after_failed_read old
FetchesBlock old (Err _) new = ⊥
