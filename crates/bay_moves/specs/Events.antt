-- Commands and turns of a drive, one after another.
use Rattle.std.specs.Prelude.{◌≡◌, List, [], ◌∷◌, Option, None, Some}
use Rattle.vtl_base.specs.Below.{Below}
use Rattle.scsi_sense.specs.declared.replies.Reply.{Reply}
use Rattle.pr_core.specs.declared.states.PrState.{PrState}
use Rattle.pr_core.specs.Keepers.{KeeperState}
use Rattle.volume_core.specs.declared.changes.Change.{Change}
use Rattle.volume_core.specs.declared.media.Turn.{Turn}
use Rattle.volume_core.specs.Medium.{MediumState}
use Rattle.drive_commands.specs.State.{DriveState}
use Rattle.drive_commands.specs.Relations.{Made, made_after, made_nothing}
use Rattle.drive_commands.specs.Execute.{Answers}
use Rattle.drive_commands.specs.Media.{TakesTurn}
use Rattle.drive_commands.specs.Events.{Event, Execute, FlushTurn, OfDrive}

module _ {M K : Type 0}
    (state : M → MediumState) (below : Below M Change) (kept : K → KeeperState) (keeps : Below K PrState) where
  -- one event of a drive that stays switched on, with its medium: a command or a flusher's turn, with the reply that a
  -- host had of it, if any, and the changes and saves that it made (own)
  abbrev pub Does : DriveState M K → Event OfDrive → Option Reply → Made → DriveState M K → Type 0
  Does old (Execute request) (Some reply) made new =
      (answers : Answers state below kept keeps old request reply new) × (made ≡ answers.taken.made)
  Does old FlushTurn None made new = (turn : Turn) × TakesTurn state below kept old turn new × (made ≡ made_nothing)
  Does old _ _ made new = ⊥

  -- such events of a drive, one after another, with their replies, and all changes and saves that they made (own)
  abbrev pub DoesAll :
      DriveState M K → List (Event OfDrive) → List (Option Reply) → Made → DriveState M K → Type 0
  DoesAll old [] [] made new = (made ≡ made_nothing) × (new ≡ old)
  DoesAll old (event ∷ events) (reply ∷ replies) made new =
      (mid : DriveState M K) × (first : Made) × (rest : Made)
      × Does old event reply first mid × DoesAll mid events replies rest new × (made ≡ made_after first rest)
  DoesAll old _ _ made new = ⊥
