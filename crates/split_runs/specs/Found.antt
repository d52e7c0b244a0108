-- What is found with both halves, as a flusher's turn of the whole drive.
use Rattle.std.specs.Prelude.{◌≡◌, ◌⊎◌, ◌++◌, List, [], true, false}
use Rattle.volume_core.specs.declared.changes.Change.{Change}
use Rattle.volume_core.specs.declared.media.Turn.{Turn}
use Rattle.volume_core.specs.Medium.{MediumState, Turns}
use Rattle.volume_core.specs.Stores.{Stores}
use Rattle.drive_commands.specs.declared.bays.Bay.TheVariants.{Empty, Unloaded, Loaded}
use Rattle.drive_commands.specs.Relations.{made_nothing}
use Rattle.drive_commands.specs.State.{Machine}
use Rattle.drive_commands.specs.Events.{FlushTurn}
use Rattle.drive_commands.specs.Step.{Step, Unanswered}
use Rattle.drive_commands.specs.Turn.{after_turn, turn_outcome}
use Rattle.split_bay.specs.Looks.{Looks}

-- a medium of which these changes are pending (own)
abbrev pub having_pending : MediumState → List Change → MediumState
having_pending medium changes = record medium { pending = changes }

-- What was pending are changes that a flusher's turn found, and changes that were accepted after it. The turn left a
-- medium that stored a first part of what it found. With the later changes pending too, that is the medium that is
-- found now (own).
pub record TurnedBefore (old new : MediumState) : Type 0 where
  pub first : List Change
  pub since : List Change
  pub pending : old.pending ≡ first ++ since
  pub turn : Turn
  pub left : MediumState
  pub turns : Turns (having_pending old first) turn left
  pub stores : Stores (having_pending old first) [] left
  pub found : new ≡ having_pending left (left.pending ++ since)

-- A drive is found as follows. Before the last of these changes were accepted it took a flusher's turn, as a step of
-- its machine, whatever the rest of the machine was then. The last changes are pending behind what the turn left.
-- Several turns count as one (own).
pub record TurnedDrive (medium : MediumState) (old new : Machine) : Type 0 where
  pub first : List Change
  pub since : List Change
  pub pending : medium.pending ≡ first ++ since
  pub turn : Turn
  pub left : MediumState
  pub stores : Stores (having_pending medium first) [] left
  pub step :
      (was : Machine)
      → Step (Unit {0}) (record was { bay = Loaded (having_pending medium first) })
      FlushTurn (Unanswered (turn_outcome turn)) made_nothing (after_turn turn left was)
  pub found : new ≡ record (after_turn turn left old) { bay = Loaded (having_pending left (left.pending ++ since)) }

-- A drive with a medium that is loaded and awake is found, with both halves, as a flusher's turn of the whole drive
-- leaves it (own).
abbrev pub FoundIsTurned : Type 0
FoundIsTurned =
    (old new : Machine) (medium : MediumState) → Looks old new → old.bay ≡ Loaded medium → medium.awake ≡ true
    → TurnedDrive medium old new

-- A drive with no medium, or with an unloaded one that is not awake, is found as it was (own).
abbrev pub FoundAsItWas : Type 0
FoundAsItWas =
    (old new : Machine)
    → Looks old new
    → (old.bay ≡ Empty) ⊎ ((medium : MediumState) × (old.bay ≡ Unloaded medium) × (medium.awake ≡ false))
    → new ≡ old
