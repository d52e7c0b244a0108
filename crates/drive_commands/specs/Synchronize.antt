-- Commands that store all that is pending before they are answered, and answers that acknowledge.
use Rattle.std.specs.Prelude.{◌≡◌, ◌⊎◌, ℕ, List, [], Bool, true, false, not, ◌&&◌, nat_lt, IsOkAnd, IsSomeAnd, IfSome}
use Rattle.scsi_opcodes.specs.declared.commands.Command.{Command}
use Rattle.scsi_opcodes.specs.declared.commands.Command.TheVariants.{Rewind, Read, Write, WriteFilemarks, Space, Erase, Locate, ReadPosition, LoadUnload}
use Rattle.scsi_sense.specs.declared.replies.Reply.{Reply}
use Rattle.scsi_sense.specs.declared.replies.Status.TheVariants.{Good, Check}
use Rattle.scsi_sense.specs.declared.sense_data.Sense.{Sense}
use Rattle.scsi_sense.specs.declared.sense_data.SenseKey.TheVariants.{NoSense}
use Rattle.scsi_opcodes.specs.Commands.{decoded}
use Rattle.volume_core.specs.Medium.{MediumState}
use Rattle.drive_commands.specs.declared.bays.Bay.{Bay}
use Rattle.drive_commands.specs.declared.bays.Bay.TheVariants.{Unloaded, Loaded}
use Rattle.drive_commands.specs.Space.{is_over_nothing}
use Rattle.drive_commands.specs.State.{Machine, medium_in}

-- whether a medium is loaded that has not failed (own)
abbrev pub is_working : Bay MediumState → Bool
is_working (Loaded medium) = not medium.failed
is_working _ = false

-- whether a command synchronizes: motions, READ POSITION, READ of some bytes, WRITE FILEMARKS without IMMED; if not
-- buffered, WRITE of some, ERASE; LOAD UNLOAD of a working loaded medium (SSC-4; READ, READ POSITION, motions own)
abbrev pub synchronizes : Machine → Command → Bool
synchronizes machine Rewind = true
synchronizes machine (Locate object part) = true
synchronizes machine ReadPosition = true
synchronizes machine (Space code count) = not (is_over_nothing code count)
synchronizes machine (WriteFilemarks count immediate) = not immediate
synchronizes machine (Read length suppress) = nat_lt 0 length
synchronizes machine (Write length) = not machine.buffered && nat_lt 0 length
synchronizes machine Erase = not machine.buffered
synchronizes machine (LoadUnload load) = is_working machine.bay
synchronizes machine _ = false

-- a command block of a command that synchronizes at this drive (own)
abbrev pub IsSynchronizing : Machine → List ℕ → Type 0
IsSynchronizing machine cdb = IsOkAnd (decoded cdb) (λ command. synchronizes machine command ≡ true)

-- what was written is there, and the end is near: key 0, EOM, 00/02 (SSC-4, early warning)
abbrev pub IsEarlyWarning : Sense → Type 0
IsEarlyWarning sense =
    (sense.key ≡ NoSense) × (sense.end_of_medium ≡ true) × (sense.code ≡ 0) × (sense.qualifier ≡ 2)

-- GOOD, or CHECK CONDITION with an early warning (own)
abbrev pub Acknowledges : Reply → Type 0
Acknowledges reply =
    (reply.status ≡ Good) ⊎ ((reply.status ≡ Check) × IsSomeAnd reply.sense IsEarlyWarning)

-- of a medium that is not loaded, where it is honest, no frame is in flight: what its side gives is sure (own)
abbrev pub IsSureOnSide : Type 0 → Bay MediumState → Type 0
IsSureOnSide honest (Unloaded medium) = honest → medium.torn ≡ []
IsSureOnSide honest _ = Unit {0}

-- the medium in the drive, if there is one, has not failed, and has nothing pending; where it is not loaded, it is sure
-- what its side gives (own)
abbrev pub NothingPending : Type 0 → Machine → Type 0
NothingPending honest machine =
    IfSome (medium_in machine.bay) (λ medium. (medium.failed ≡ false) × (medium.pending ≡ []))
    × IsSureOnSide honest machine.bay
