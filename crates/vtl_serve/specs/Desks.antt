-- What serves the requests of no host: moves and inventories.
use Rattle.std.specs.Prelude.{◌≡◌, ◌+◌, ℕ, Bool, true, List}
use Rattle.tape_disk.specs.Disk.{DiskState}
use Rattle.scsi_sense.specs.declared.replies.Reply.{Reply}
use Rattle.scsi_sense.specs.declared.replies.Status.{Status}
use Rattle.scsi_sense.specs.declared.replies.Status.TheVariants.{Good, Check, Conflict}
use Rattle.library.specs.Counts.{has_drive}
use Rattle.library.specs.MovesAt.{IsMovedAmong}
use Rattle.vtl_wire.specs.declared.answers.Answer.{Answer}
use Rattle.vtl_wire.specs.declared.answers.Answer.TheVariants as answer
use Rattle.vtl_wire.specs.declared.requests.Request.{Request}
use Rattle.vtl_wire.specs.declared.requests.Request.TheVariants.{Command, Move, Inventory}
use Rattle.vtl_serve.specs.declared.labels.Label.{Label}
use Rattle.vtl_serve.specs.Labels.{carried, inventory_of}

-- whether there is a drive, by its number, where each cartridge is, and how many moves the operator made (own)
pub record DeskState : Type 0 where
  pub drives : List Bool
  pub labels : List Label
  pub moved : ℕ

-- a request is a command to a drive that there is, a move or an inventory (own)
abbrev pub is_served : List Bool → Request → Bool
is_served drives (Command host drive cdb sent tag) = has_drive drives drive
is_served drives (Move from to tag) = true
is_served drives (Inventory tag) = true

-- memory may run out as an inventory is served, whose entries take some; a move takes none (own)
abbrev pub TakesMemory : Request → Type 0
TakesMemory (Command host drive cdb sent tag) = ⊥
TakesMemory (Move from to tag) = ⊥
TakesMemory (Inventory tag) = Unit {0}

-- where each cartridge is after a move with this status: only GOOD moves one (SMC-3, MOVE MEDIUM)
abbrev pub labels_after : Status → ℕ → ℕ → List Label → List Label
labels_after Good from to labels = carried from to labels
labels_after Check from to labels = labels
labels_after Conflict from to labels = labels

module _ {D : Type 0} (state : D → DiskState) where
  -- A move is answered as MOVE MEDIUM is among these drives, with its tag, and at GOOD the cartridge's label moves. It
  -- is one move of the operator. An inventory says what is at each address, and moves nothing (SMC-3, MOVE MEDIUM; the
  -- rest own).
  abbrev pub AnswersDesk : DeskState → Request → Answer → DeskState → Type 0
  AnswersDesk old (Command host drive cdb sent tag) answered new = ⊥
  AnswersDesk old (Move from to tag) answered new =
      (reply : Reply) × (answered ≡ answer.Move reply tag) × IsMovedAmong state old.drives from to reply
      × (new ≡ record {
        drives = old.drives;
        labels = labels_after reply.status from to old.labels;
        moved = old.moved + 1;
      })
  AnswersDesk old (Inventory tag) answered new =
      (answered ≡ answer.Inventory (inventory_of old.drives old.labels) tag) × (new ≡ old)
