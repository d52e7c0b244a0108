-- What the work of a command owes, over any medium and the position on it.
use Rattle.std.specs.Prelude.{◌≡◌, ℕ, List, Result, false}
use Rattle.vtl_base.specs.Below.{Below, Advances}
use Rattle.scsi_sense.specs.declared.replies.Reply.{Reply}
use Rattle.volume_core.specs.declared.changes.Change.{Change}
use Rattle.volume_core.specs.Medium.{MediumState}
use Rattle.volume_core.specs.Stores.{Stores}
use Rattle.positioning.specs.declared.positions.Pos.{Pos}
use Rattle.drive_commands.specs.declared.faults.Fault.{Fault}
use Rattle.drive_commands.specs.State.{Mounted, mounted, IsPositioned}
use Rattle.drive_commands.specs.Relations.{MediumRelation}
use Rattle.drive_commands.specs.Counted.{counted_up}
use Rattle.drive_commands.specs.Execute.{is_device_fault}

-- the position is on a medium that has not failed
pub record IsOnWorkingMedium (m : Mounted) : Type 0 where
  pub on : IsPositioned m.medium m.position
  pub works : m.medium.failed ≡ false

-- such work on a medium and its position makes these changes, and the medium accepts exactly them
pub record Carries {M : Type 0}
    (state : M → MediumState) (below : Below M Change)
    (W : MediumRelation) (old : M) (before : Pos) (answer : Result Reply Fault) (made : List Change) (new : M)
    (now : Pos) : Type 0 where
  pub work : W (mounted (state old) before) answer made (mounted (state new) now)
  pub advances : Advances below old made (is_device_fault answer) new
  pub stores : Stores (state old) made (state new)

-- the same, and the count of what was accepted rises by what the work makes
pub record Tallies {M : Type 0}
    (state : M → MediumState) (below : Below M Change)
    (W : MediumRelation) (old : M) (before : Pos) (tally : ℕ) (answer : Result Reply Fault) (new : M) (now : Pos)
    (tally' : ℕ) : Type 0 where
  pub made : List Change
  pub carries : Carries state below W old before answer made new now
  pub counted : tally' ≡ counted_up tally made
