-- Commands that give data and change nothing: INQUIRY, READ BLOCK LIMITS, READ POSITION.
use Rattle.std.specs.Prelude.{◌≡◌, ◌<◌, ℕ, List, [], length, Result, Ok, Err}
use Rattle.scsi_sense.specs.declared.replies.Reply.{Reply}
use Rattle.scsi_sense.specs.Replies.{good_with}
use Rattle.positioning.specs.Report.{report_of}
use Rattle.drive_commands.specs.declared.faults.Fault.{Fault}
use Rattle.drive_commands.specs.declared.faults.Fault.TheVariants.{NoMemory}
use Rattle.drive_commands.specs.State.{contents_of}
use Rattle.drive_commands.specs.Relations.{MachineRelation, MediumRelation, made_nothing}
use Rattle.drive_commands.specs.StoredFirst.{StoredFirst}

-- GOOD with these bytes; memory runs out only where there are more than 24: fewer stand in the reply itself
-- (SAM-5; memory own)
abbrev pub Gives : List ℕ → Result Reply Fault → Type 0
Gives bytes (Ok reply) = reply ≡ good_with bytes
Gives bytes (Err NoMemory) = 24 < length bytes
Gives bytes (Err _) = ⊥

-- these bytes are given, and nothing changes (SPC-4, INQUIRY, PERSISTENT RESERVE IN; SSC-4, READ BLOCK LIMITS)
abbrev pub GivesData : List ℕ → MachineRelation
GivesData bytes old answer made new = Gives bytes answer × (made ≡ made_nothing) × (new ≡ old)

-- the bytes of the position are given, and nothing changes (SSC-4, READ POSITION)
abbrev pub GivesPosition : MediumRelation
GivesPosition old answer made new =
    Gives (report_of (contents_of old) old.position) answer × (made ≡ []) × (new ≡ old)

-- What is pending is stored, and the position is given. Since nothing is pending then, first and last location are
-- equal (SSC-4, READ POSITION; that it stores first, own).
abbrev pub ReadPositionWork : MediumRelation
ReadPositionWork = StoredFirst GivesPosition
