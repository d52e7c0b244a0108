-- The drive machine: what may come of each event.
use Rattle.std.specs.Prelude.{List, filter_map, Option, None, Some, Result}
use Rattle.scsi_sense.specs.declared.replies.Reply.{Reply}
use Rattle.drive_commands.specs.declared.faults.Fault.{Fault}
use Rattle.drive_commands.specs.State.{Machine}
use Rattle.drive_commands.specs.Faults.{reply_of}
use Rattle.drive_commands.specs.Relations.{Made}
use Rattle.drive_commands.specs.Events.{Event, Execute, FlushTurn, Insert, Load, OfDrive, PowerOn, Unload}
use Rattle.drive_commands.specs.Checks.{Executes}
use Rattle.drive_commands.specs.Turn.{FlushTurns}
use Rattle.drive_commands.specs.Load.{Inserts, Loads, PowersOn}
use Rattle.drive_commands.specs.LoadUnload.{TakesOut}

-- The outcome of an event. A command, a loading and an unloading are answered, by a reply or a fault. Any other event
-- has no reply: it is done, or meets a fault (own).
pub data Output : Type 0 where
  Answered : (answer : Result Reply Fault) → Output
  Unanswered : (outcome : Result Unit Fault) → Output

-- From old, this may come of the event, make this and leave new (SSC-4, SPC-4; faults own). `honest` is that the medium
-- gives what stands on it: where that is not known, the bytes of a block and the volume of a side are open, and nothing
-- else. The machine itself is the one with `Unit {0}`, which holds.
abbrev pub Step : Type 0 → Machine → Event OfDrive → Output → Made → Machine → Type 0
Step honest old (Execute request) (Answered answer) made new = Executes honest request old answer made new
Step honest old FlushTurn (Unanswered outcome) made new = FlushTurns old outcome made new
Step honest old (Load medium) (Answered answer) made new = Loads honest medium old answer made new
Step honest old (Insert medium) (Unanswered outcome) made new = Inserts medium old outcome made new
Step honest old Unload (Answered answer) made new = TakesOut honest old answer made new
Step honest old (PowerOn medium keeper) (Unanswered outcome) made new = PowersOn honest medium keeper outcome made new
Step honest old _ _ made new = ⊥

-- the reply to an event, if it is answered (own)
abbrev pub reply_in : Output → Option Reply
reply_in (Answered answer) = Some (reply_of answer)
reply_in (Unanswered outcome) = None

-- the replies among the outcomes of some events (own)
abbrev pub replies_of : List Output → List Reply
replies_of outputs = filter_map reply_in outputs
