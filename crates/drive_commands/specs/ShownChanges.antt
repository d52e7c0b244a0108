-- What a reply shows of the changes that were made with it.
use Rattle.std.specs.Prelude.{◌≡◌, ◌≤◌, ℕ, List, [], length, Bool, true, false, nat_lt, IsOkAnd, IsSomeAnd}
use Rattle.vtl_base.specs.Below.{Below}
use Rattle.scsi_sense.specs.declared.replies.Reply.{Reply}
use Rattle.scsi_sense.specs.declared.replies.Status.TheVariants.{Check}
use Rattle.scsi_sense.specs.declared.sense_data.Sense.{Sense}
use Rattle.scsi_sense.specs.declared.sense_data.SenseKey.TheVariants.{MediumError}
use Rattle.scsi_opcodes.specs.declared.commands.Command.{Command}
use Rattle.scsi_opcodes.specs.declared.commands.Command.TheVariants.{Write, WriteFilemarks, Erase}
use Rattle.scsi_opcodes.specs.Commands.{decoded}
use Rattle.pr_core.specs.declared.states.PrState.{PrState}
use Rattle.pr_core.specs.Keepers.{KeeperState}
use Rattle.volume_core.specs.declared.changes.Change.{Change}
use Rattle.volume_core.specs.Medium.{MediumState}
use Rattle.drive_commands.specs.State.{DriveState}
use Rattle.drive_commands.specs.Work.{Request}
use Rattle.drive_commands.specs.Synchronize.{Acknowledges}
use Rattle.drive_commands.specs.Execute.{Answers}

-- whether a command is one that changes the medium: WRITE of some bytes, WRITE FILEMARKS of some, and ERASE
-- (SSC-4, WRITE(6), WRITE FILEMARKS(6), ERASE(6))
abbrev pub changes_medium : Command → Bool
changes_medium (Write length) = nat_lt 0 length
changes_medium (WriteFilemarks count immediate) = nat_lt 0 count
changes_medium Erase = true
changes_medium _ = false

-- a command block of such a command (own)
abbrev pub IsChanging : List ℕ → Type 0
IsChanging cdb = IsOkAnd (decoded cdb) (λ command. changes_medium command ≡ true)

-- a write error of the command itself, and no deferred one: key 3, 0C/00 (SPC-4, current and deferred sense data)
abbrev pub IsWriteError : Sense → Type 0
IsWriteError sense =
    (sense.key ≡ MediumError) × (sense.code ≡ 0x0c) × (sense.qualifier ≡ 0) × (sense.deferred ≡ false)

-- CHECK CONDITION with such a write error (own)
abbrev pub ShowsWriteError : Reply → Type 0
ShowsWriteError reply = (reply.status ≡ Check) × IsSomeAnd reply.sense IsWriteError

-- What a reply shows of the changes that were made with it (SSC-4, WRITE(6), WRITE FILEMARKS(6), ERASE(6), early
-- warning). Only after a write error is it open whether there was one: the device may fail before the change is
-- accepted, or as it is stored (own).
pub record ShowsChanges (cdb : List ℕ) (reply : Reply) (changes : List Change) : Type 0 where
  -- there is never more than one
  pub few : length changes ≤ 1
  -- one is made where a command that changes the medium is acknowledged, by GOOD or by an early warning
  pub one : IsChanging cdb → Acknowledges reply → length changes ≡ 1
  -- every other reply comes with none, except for a write error
  pub none : (IsChanging cdb → Acknowledges reply → ⊥) → (ShowsWriteError reply → ⊥) → changes ≡ []
  -- and a command that does not change the medium makes none, whatever it is answered
  pub other : (IsChanging cdb → ⊥) → changes ≡ []

-- each reply of a drive shows the changes that its medium accepted with it (own)
abbrev pub RepliesShowChanges :
    {M K : Type 0} → (M → MediumState) → Below M Change → (K → KeeperState) → Below K PrState → Type 0
RepliesShowChanges {M} {K} state below kept keeps =
    (old new : DriveState M K) (request : Request) (reply : Reply)
    → (answers : Answers state below kept keeps old request reply new)
    → ShowsChanges request.cdb reply answers.taken.made.changes
