-- Storing what is pending, as a part of a command.
use Rattle.std.specs.Prelude.{◌≤◌, length, Result, Ok, Err}
use Rattle.volume_core.specs.Medium.{MediumState, Breaks}
use Rattle.drive_commands.specs.declared.faults.Fault.{Fault}
use Rattle.drive_commands.specs.declared.faults.Fault.TheVariants.{Writing}
use Rattle.drive_commands.specs.StoredFirst.{IsStored}

-- what is pending is stored, or the device fails
abbrev pub StoresPending : MediumState → Result Unit Fault → MediumState → Type 0
StoresPending old (Ok done) new = IsStored old new
StoresPending old (Err Writing) new = (1 ≤ length old.pending) × Breaks old new
StoresPending old (Err _) new = ⊥
