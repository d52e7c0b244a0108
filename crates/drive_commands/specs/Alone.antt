-- What a drive does without the disk of its medium, which may stand behind a lock of its own.
use Rattle.std.specs.Prelude.{◌≡◌, ℕ, List, Option, None, Some, Bool, true, false, not, nat_lt, ◌&&◌, ◌||◌, Result, Ok, Err}
use Rattle.vtl_base.specs.Below.{Below}
use Rattle.scsi_sense.specs.declared.replies.Reply.{Reply}
use Rattle.scsi_opcodes.specs.declared.commands.Command.{Command}
use Rattle.scsi_opcodes.specs.declared.commands.Command.TheVariants.{Rewind, Locate, ReadPosition, Space, WriteFilemarks, Read, Write, Erase, LoadUnload}
use Rattle.pr_core.specs.declared.states.PrState.{PrState}
use Rattle.pr_core.specs.Keepers.{KeeperState}
use Rattle.volume_core.specs.declared.changes.Change.{Change}
use Rattle.volume_core.specs.Medium.{MediumState}
use Rattle.drive_commands.specs.declared.bays.Bay.{Bay}
use Rattle.drive_commands.specs.declared.bays.Bay.TheVariants.{Loaded}
use Rattle.drive_commands.specs.declared.conditions.Denial.{Denial}
use Rattle.drive_commands.specs.State.{DriveState, machine_of}
use Rattle.drive_commands.specs.Space.{is_over_nothing}
use Rattle.drive_commands.specs.Checks.{verdict}
use Rattle.drive_commands.specs.Work.{Request}
use Rattle.drive_commands.specs.Data.{AnswersLent}

-- whether the medium that is loaded takes a change whose block has so many bytes without its disk (own)
abbrev pub alone_in : {M : Type 0} → (M → ℕ → Bool) → Bay M → ℕ → Bool
alone_in alone (Loaded m) bytes = alone m bytes
alone_in alone _ bytes = false

-- Whether the work of a command needs the disk, in this mode and over a medium that takes changes with such blocks
-- without it: what is pending is stored, a block is fetched, a medium is opened or parked, or the medium does not take
-- the change without it (own).
abbrev pub needs_disk : (ℕ → Bool) → Bool → Command → Bool
needs_disk alone buffered Rewind = true
needs_disk alone buffered (Locate object part) = true
needs_disk alone buffered ReadPosition = true
needs_disk alone buffered Erase = true
needs_disk alone buffered (LoadUnload load) = true
needs_disk alone buffered (Space code count) = not (is_over_nothing code count)
needs_disk alone buffered (Read length suppress) = nat_lt 0 length
needs_disk alone buffered (Write length) = nat_lt 0 length && (not buffered || not (alone length))
needs_disk alone buffered (WriteFilemarks count immediate) = not immediate || (nat_lt 0 count && not (alone 0))
needs_disk alone buffered _ = false

-- the same of a request whose checks had this result: a request that is denied needs no disk (own)
abbrev pub needs_disk_as : (ℕ → Bool) → Bool → Result Command Denial → Bool
needs_disk_as alone buffered (Ok command) = needs_disk alone buffered command
needs_disk_as alone buffered (Err denial) = false

module _ {M K : Type 0} (state : M → MediumState) (kept : K → KeeperState) (alone : M → ℕ → Bool) where
  -- whether a request passes all checks, and its work needs the disk (own)
  abbrev pub request_needs_disk : DriveState M K → Request → Bool
  request_needs_disk drive request =
      needs_disk_as (alone_in alone drive.bay) drive.buffered (verdict (machine_of state kept drive) request)

  -- A host is answered, and its data are taken or left, as by the drive with its disk, where the request needs no disk.
  -- Where it needs it there is no answer, nothing has changed, and all data are left (own).
  abbrev pub AnswersAlone :
      Below M Change → Below K PrState → DriveState M K → Request → Option Reply → DriveState M K → List ℕ → Type 0
  AnswersAlone below keeps old request (Some reply) new left =
      (request_needs_disk old request ≡ false) × AnswersLent state below kept keeps old request reply new left
  AnswersAlone below keeps old request None new left =
      (request_needs_disk old request ≡ true) × (new ≡ old) × (left ≡ request.sent)
