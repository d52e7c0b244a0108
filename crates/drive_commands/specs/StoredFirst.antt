-- What is pending is stored before a command goes on.
use Rattle.std.specs.Prelude.{◌≡◌, ◌⊎◌, [], Ok, Err}
use Rattle.scsi_sense.specs.Replies.{good_with}
use Rattle.volume_core.specs.Medium.{MediumState, volume_of, Works}
use Rattle.positioning.specs.declared.positions.Pos.{Pos}
use Rattle.drive_commands.specs.declared.faults.Fault.TheVariants.{Writing}
use Rattle.drive_commands.specs.State.{Mounted, mounted}
use Rattle.drive_commands.specs.Relations.{MediumRelation, FailsToStore}

-- nothing is pending, and the volume is as it was (SSC-4, buffered mode)
pub record IsStored (old new : MediumState) : Type 0 where
  pub works : Works (volume_of old) new
  pub nothing_pending : new.pending ≡ []

-- what is pending was stored, and from there the work was done (own)
abbrev pub OnceStored : MediumRelation → MediumRelation
OnceStored W old answer made new =
    (between : MediumState) × IsStored old.medium between × W (mounted between old.position) answer made new

-- What is pending is stored, and then the work is done. Where the device fails while it is stored, the command ends
-- before its work (SSC-4, buffered mode; the fault own).
abbrev pub StoredFirst : MediumRelation → MediumRelation
StoredFirst W old (Err Writing) made new =
    ((made ≡ []) × FailsToStore old new) ⊎ OnceStored W old (Err Writing) made new
StoredFirst W old answer made new = OnceStored W old answer made new

-- GOOD, and the position is this one (SSC-4, logical position)
abbrev pub GoesTo : (Mounted → Pos) → MediumRelation
GoesTo where_to old answer made new =
    (answer ≡ Ok (good_with [])) × (made ≡ []) × (new ≡ record old { position = where_to old })
