-- The parts of a change at the position.
use Rattle.std.specs.Prelude.{◌≡◌, ℕ, List, [], ◌∷◌, Option, None, Some, Bool, true, Result, Ok, Err}
use Rattle.scsi_sense.specs.declared.replies.Reply.{Reply}
use Rattle.scsi_sense.specs.Replies.{check_with}
use Rattle.scsi_sense.specs.Senses.{volume_overflow, medium_failed}
use Rattle.volume_core.specs.declared.changes.Change.{Change}
use Rattle.volume_core.specs.declared.changes.Change.TheVariants.{Put, Marks, Erase}
use Rattle.volume_core.specs.declared.media.MediumError.{MediumError}
use Rattle.volume_core.specs.declared.media.MediumError.TheVariants as medium
use Rattle.volume_core.specs.Volume.{part_of, staying_of}
use Rattle.volume_core.specs.Medium.{MediumState, volume_of, Works, Breaks}
use Rattle.positioning.specs.declared.positions.Pos.{Pos}
use Rattle.drive_commands.specs.declared.faults.Fault.{Fault}
use Rattle.drive_commands.specs.declared.faults.Fault.TheVariants.{NoMemory, Writing, SideFull}
use Rattle.drive_commands.specs.Append.{done_reply}

-- a change is made at a position
pub record IsAt (position : Pos) (change : Change) : Type 0 where
  pub part : part_of change ≡ position.part
  pub object : staying_of change ≡ position.obj

-- the outcome of a change that a medium did not accept
abbrev pub refused_as : MediumError → Option ℕ → Result Reply Fault
refused_as (medium.Refused cause) amount = Ok (check_with (volume_overflow amount) [])
refused_as medium.NoMemory amount = Err NoMemory
refused_as medium.SideFull amount = Err (SideFull amount)
refused_as medium.Device amount = Err Writing
refused_as _ amount = Ok (check_with medium_failed [])

-- a change is returned where none was made
abbrev pub returned_of : List Change → Change → Option Change
returned_of [] change = Some change
returned_of (made ∷ others) change = None

-- the bytes of a block that is returned, else those that are left
abbrev pub restored : Option Change → List ℕ → List ℕ
restored (Some (Put part at block)) left = block
restored (Some (Marks part at count)) left = left
restored (Some (Erase part at)) left = left
restored None left = left

-- once a change is accepted, one that settles leaves nothing pending, or the device fails; and it is warned or not
abbrev pub SettlesAfter : Bool → Bool → MediumState → Result Reply Fault → MediumState → Type 0
SettlesAfter settles warned old (Ok reply) new =
    (reply ≡ done_reply warned) × Works (volume_of old) new × (settles ≡ true → new.pending ≡ [])
SettlesAfter settles warned old (Err Writing) new = (settles ≡ true) × Breaks old new
SettlesAfter settles warned old (Err _) new = ⊥
