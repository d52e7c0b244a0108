-- What hosts are answered in a list of calls of the two halves, as a run of the drive machine.
use Rattle.std.specs.Prelude.{◌≡◌, ◌++◌, ◌&&◌, List, [], ◌∷◌, Bool, true, false, not, None, Some, Result}
use Rattle.tape_disk.specs.Disk.{DiskState}
use Rattle.scsi_sense.specs.declared.replies.Reply.{Reply}
use Rattle.volume_core.specs.declared.changes.Change.{Change}
use Rattle.volume_core.specs.declared.media.Turn.{Turn}
use Rattle.volume_core.specs.declared.media.Turn.TheVariants.{Device}
use Rattle.volume_core.specs.Medium.{MediumState}
use Rattle.drive_commands.specs.declared.bays.Bay.{Bay}
use Rattle.drive_commands.specs.declared.bays.Bay.TheVariants.{Empty, Unloaded, Loaded}
use Rattle.drive_commands.specs.declared.faults.Fault.{Fault}
use Rattle.drive_commands.specs.Events.{Execute, FlushTurn}
use Rattle.drive_commands.specs.Execute.{HonestIn}
use Rattle.drive_commands.specs.Faults.{reply_of}
use Rattle.drive_commands.specs.Relations.{Made, made_nothing}
use Rattle.drive_commands.specs.State.{Machine, has_failed_in, machine_of}
use Rattle.drive_commands.specs.Step.{Answered, Step, Unanswered}
use Rattle.drive_commands.specs.Turn.{turn_outcome}
use Rattle.drive_commands.specs.Work.{Request}
use Rattle.aptpl_store.specs.Kept.{store_kept}
use Rattle.tape_buffer.specs.Moves.{buffer_below}
use Rattle.tape_buffer.specs.State.{state_of}
use Rattle.split_bay.specs.Backs.{is_stuck_in}
use Rattle.split_bay.specs.Looks.{Looks, is_broken}
use Rattle.split_runs.specs.Calls.{AllHalfSteps, Alone, Both, HalfCall, HalvesState, KeepsHalves, Roomed, Settled, Told, Turned, whole_medium}

-- a host is answered by a step of the machine, in which exactly these changes are accepted (own)
abbrev pub RepliesBy : Machine → Request → Reply → List Change → Machine → Type 0
RepliesBy old request reply made new =
    (answer : Result Reply Fault) × (all : Made) × (reply ≡ reply_of answer) × (made ≡ all.changes)
    × Step (Unit {0}) old (Execute request) (Answered answer) all new

-- the drive as its halves show it: the machine that hosts see, and whether the disk's half is stuck, since its device
-- has failed, which may not have been reported to hosts (own)
pub record SeenDrive : Type 0 where
  pub machine : Machine
  pub stuck : Bool

-- a turn in which the device fails makes the disk's half stuck; no other turn does (own)
abbrev pub stuck_after : Turn → Bool → Bool
stuck_after Device stuck = true
stuck_after _ stuck = stuck

-- what is in a drive has failed while it was awake (own)
abbrev pub is_broken_in : Bay MediumState → Bool
is_broken_in Empty = false
is_broken_in (Unloaded medium) = is_broken medium
is_broken_in (Loaded medium) = is_broken medium

-- hosts see whether the disk's half is stuck: no fault is left to report (own)
abbrev pub IsSeenWhole : SeenDrive → Type 0
IsSeenWhole drive = drive.stuck ≡ is_broken_in drive.machine.bay

-- A fault is reported where the disk's half is stuck and hosts do not see that it has failed: what is loaded is seen
-- to have failed, and an error is deferred. Else nothing changes (own).
abbrev pub Tells : Bool → SeenDrive → SeenDrive → Type 0
Tells false old new = new ≡ old
Tells true old new =
    Looks old.machine new.machine × (new.machine.deferred ≡ true)
    × (has_failed_in (λ m. m) new.machine.bay ≡ true) × (new.stuck ≡ true)

-- The drive as its halves show it, through a call of them. The machine takes a step where a host is answered. Hosts see
-- nothing of a turn. With both halves held, the machine is looked at first (own).
abbrev pub SeenStep : SeenDrive → HalfCall → List Change → SeenDrive → Type 0
SeenStep old (Alone request None left) made new = (new ≡ old) × (made ≡ [])
SeenStep old (Alone request (Some reply) left) made new =
    RepliesBy old.machine request reply made new.machine × (new.stuck ≡ old.stuck)
SeenStep old (Turned turn) made new = (new ≡ record old { stuck = stuck_after turn old.stuck }) × (made ≡ [])
SeenStep old (Both request reply left) made new =
    (found : Machine) × Looks old.machine found × RepliesBy found request reply made new.machine × IsSeenWhole new
SeenStep old (Settled turn) made new =
    (found : Machine) × Looks old.machine found
    × Step (Unit {0}) found FlushTurn (Unanswered (turn_outcome turn)) made_nothing new.machine × (made ≡ [])
    × IsSeenWhole new
SeenStep old Roomed made new = Looks old.machine new.machine × (made ≡ []) × IsSeenWhole new
SeenStep old Told made new =
    Tells (old.stuck && not (has_failed_in (λ m. m) old.machine.bay)) old new × (made ≡ [])

-- the same of a list of calls (own)
abbrev pub AllSeenSteps : SeenDrive → List HalfCall → List Change → SeenDrive → Type 0
AllSeenSteps old [] made new = (new ≡ old) × (made ≡ [])
AllSeenSteps old (call ∷ calls) made new =
    (between : SeenDrive) × (first : List Change) × (rest : List Change)
    × SeenStep old call first between × AllSeenSteps between calls rest new × (made ≡ first ++ rest)

module _ {D : Type 0} (state : D → DiskState) where
  -- the machine that hosts see (own)
  abbrev pub seen_machine : HalvesState D → Machine
  seen_machine halves = machine_of (state_of state) store_kept halves.front.drive

  -- the drive as these halves show it (own)
  abbrev pub seen_drive : HalvesState D → SeenDrive
  seen_drive halves =
      record { machine = seen_machine halves; stuck = is_stuck_in state halves.back.medium }

  -- Over honest disks the replies of any list of calls of the halves are those of a run of the machine, in which it is
  -- looked at between steps (own).
  abbrev pub RepliesOfHalves : Type 0
  RepliesOfHalves =
      (old new : HalvesState D) (calls : List HalfCall) (made : List Change) → KeepsHalves state old
      → HonestIn (buffer_below state) (whole_medium old) → AllHalfSteps state old calls made new
      → AllSeenSteps (seen_drive old) calls made (seen_drive new)
