-- The data of a command that were lent with it.
use Rattle.std.specs.Prelude.{◌≡◌, ℕ, List, [], ◌∷◌}
use Rattle.vtl_base.specs.Below.{Below}
use Rattle.scsi_sense.specs.declared.replies.Reply.{Reply}
use Rattle.pr_core.specs.declared.states.PrState.{PrState}
use Rattle.pr_core.specs.Keepers.{KeeperState}
use Rattle.volume_core.specs.declared.changes.Change.{Change}
use Rattle.volume_core.specs.Medium.{MediumState}
use Rattle.drive_commands.specs.State.{DriveState}
use Rattle.drive_commands.specs.Work.{Request}
use Rattle.drive_commands.specs.Execute.{Answers}

-- what is left of the data of a command that made these changes: all where it made none; none where it made one, for
-- which they were taken (own)
abbrev pub data_left : List Change → List ℕ → List ℕ
data_left [] sent = sent
data_left (change ∷ changes) sent = []

-- a host is answered, and of the data that it sent this is left (own)
pub record AnswersLent {M K : Type 0}
    (state : M → MediumState) (below : Below M Change) (kept : K → KeeperState) (keeps : Below K PrState)
    (old : DriveState M K) (request : Request) (reply : Reply) (new : DriveState M K) (left : List ℕ) : Type 0 where
  pub step : Answers state below kept keeps old request reply new
  pub data_is : left ≡ data_left step.taken.made.changes request.sent
