-- What a move does with a drive that stands in two halves, and with the cartridge that it moves.
use Rattle.std.specs.Prelude.{◌≡◌, List, [], Result, Ok, Err}
use Rattle.tape_disk.specs.Disk.{DiskState}
use Rattle.scsi_sense.specs.declared.replies.Reply.{Reply}
use Rattle.volume_core.specs.declared.changes.Change.{Change}
use Rattle.drive_commands.specs.Media.{GoesOut}
use Rattle.tape_buffer.specs.Moves.{buffer_below}
use Rattle.tape_buffer.specs.State.{BufferState, state_of}
use Rattle.split_bay.specs.Backs.{BackState}
use Rattle.split_bay.specs.Fronts.{FrontState}
use Rattle.split_bay.specs.Halves.{Joins}
use Rattle.split_runs.specs.Places.{PartsInto, StepsBack, StepsIn, StepsOut, StepsPut, StepsWorked}
use Rattle.split_runs.specs.Steps.{halves_of}

module _ {D : Type 0} (state : D → DiskState) where
  -- Whatever waits: the cartridge is taken out of the drive, which parts again; or it stays, with this reply, which is
  -- other work of the drive (own).
  abbrev pub IsOutStep :
      FrontState D → BackState D → Result (BufferState D) Reply → FrontState D → BackState D → Type 0
  IsOutStep front back (Ok out) front' back' =
      (waiting : List Change)
      → (step : StepsOut state (halves_of front back waiting) out)
      × PartsInto state step.left step.ends (halves_of front' back' [])
  IsOutStep front back (Err reply) front' back' =
      (waiting : List Change)
      → (step : StepsWorked state (halves_of front back waiting) [] (halves_of front' back' []))
      × GoesOut (state_of state) (buffer_below state) step.joined (Err reply) step.used

  -- A cartridge is opened and loaded into the drive, which parts again; or it comes back, with a reply, and the drive
  -- parts as it was (own).
  abbrev pub IsInStep :
      FrontState D → BackState D → BufferState D → Result Unit (BufferState D × Reply) → FrontState D → BackState D
      → Type 0
  IsInStep front back given (Ok done) front' back' =
      (step : StepsIn state given (halves_of front' back' [])) × Joins state front back step.empty step.ends
  IsInStep front back given (Err refused) front' back' =
      (step : StepsBack state given refused.0) × (refused.1 ≡ step.reply)
      × Joins state front back step.empty front.sending
      × PartsInto state step.bay front.sending (halves_of front' back' [])

  -- a cartridge is put into the drive, and not loaded; the drive parts again (own)
  abbrev pub IsPutStep : FrontState D → BackState D → BufferState D → FrontState D → BackState D → Type 0
  IsPutStep front back given front' back' =
      (step : StepsPut state given (halves_of front' back' [])) × Joins state front back step.empty step.ends
