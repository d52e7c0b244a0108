-- What the work of a command is: a relation. What a step makes; nothing done; what stays at a failure.
use Rattle.std.specs.Prelude.{◌≡◌, ◌≤◌, ◌++◌, List, [], length, Result, Ok}
use Rattle.scsi_sense.specs.declared.replies.Reply.{Reply}
use Rattle.scsi_sense.specs.Replies.{good_with}
use Rattle.volume_core.specs.declared.changes.Change.{Change}
use Rattle.volume_core.specs.Medium.{Works, Breaks}
use Rattle.pr_core.specs.declared.states.PrState.{PrState}
use Rattle.drive_commands.specs.declared.faults.Fault.{Fault}
use Rattle.drive_commands.specs.State.{Machine, Mounted, contents_of}

-- what a step makes: the changes that the medium is to accept, and the states of the reservations that the keeper may
-- have stored (own)
pub record Made : Type 0 where
  pub changes : List Change
  pub saved : List PrState

-- nothing is made (own)
abbrev pub made_nothing : Made
made_nothing = record { changes = []; saved = [] }

-- changes of the medium are made, and no more (own)
abbrev pub made_on_medium : List Change → Made
made_on_medium changes = record { changes = changes; saved = [] }

-- what two steps in a row make (own)
abbrev pub made_after : Made → Made → Made
made_after first second =
    record { changes = first.changes ++ second.changes; saved = first.saved ++ second.saved }

-- from the first, a command may be answered so (or a fault come), make these changes, and leave the last: of a loaded
-- medium and the position (own)
abbrev pub MediumRelation : Type 1
MediumRelation = Mounted → Result Reply Fault → List Change → Mounted → Type 0

-- the same of the whole drive, and of all that it makes (own)
abbrev pub MachineRelation : Type 1
MachineRelation = Machine → Result Reply Fault → Made → Machine → Type 0

-- a host gets this reply, and nothing is done (own)
abbrev pub RepliesAlone : Reply → MachineRelation
RepliesAlone reply old answer made new = (answer ≡ Ok reply) × (made ≡ made_nothing) × (new ≡ old)

-- GOOD, and nothing is done (SSC-4)
abbrev pub Idles : MediumRelation
Idles old answer made new = (answer ≡ Ok (good_with [])) × (made ≡ []) × (new ≡ old)

-- volume and position are as they were, and the medium works; what was pending may have been stored (own)
pub record Stays (old new : Mounted) : Type 0 where
  pub medium : Works (contents_of old) new.medium
  pub position : new.position ≡ old.position

-- the device failed while what was pending was stored: volume and position are as they were (own)
pub record FailsToStore (old new : Mounted) : Type 0 where
  pub some_pending : 1 ≤ length old.medium.pending
  pub medium : Breaks old.medium new.medium
  pub position : new.position ≡ old.position
