-- Steps, where more is known of the medium's honesty.
use Rattle.std.proofs.Common.{ℕ, List, [], Option, None, Some, Result, Ok, Err, Bool, true, false}
use Rattle.scsi_sense.specs.declared.replies.Reply.{Reply}
use Rattle.scsi_opcodes.specs.declared.commands.Command.{Command}
use Rattle.scsi_opcodes.specs.declared.commands.Command.TheVariants.{TestUnitReady, Rewind, RequestSense, ReadBlockLimits, Read, Write, WriteFilemarks, Space, Inquiry, Erase, Locate, ReadPosition, PersistentReserveIn, PersistentReserveOut, ModeSelect, ModeSense, LoadUnload}
use Rattle.scsi_opcodes.specs.Opcodes.{needs_medium}
use Rattle.scsi_opcodes.specs.Commands.{code_of}
use Rattle.pr_core.specs.Keepers.{KeeperState}
use Rattle.volume_core.specs.declared.changes.Change.{Change}
use Rattle.volume_core.specs.declared.media.MediumError.{MediumError}
use Rattle.volume_core.specs.declared.media.MediumError.TheVariants as Errors
use Rattle.volume_core.specs.Volume.{Part}
use Rattle.volume_core.specs.Medium.{MediumState, IsParked, IsParkedFrom, IsUnopened, Parks, StaysParked, WakesFrom, volume_of}
use Rattle.drive_commands.specs.declared.bays.Bay.{Bay}
use Rattle.drive_commands.specs.declared.bays.Bay.TheVariants.{Empty, Unloaded, Loaded}
use Rattle.drive_commands.specs.declared.faults.Fault.{Fault}
use Rattle.drive_commands.specs.State.{Machine, Mounted, mounted}
use Rattle.drive_commands.specs.Relations.{Made}
use Rattle.drive_commands.specs.declared.conditions.Denial.{Denial}
use Rattle.drive_commands.specs.Work.{Request, DriveWork, MediumWork, WorkBy}
use Rattle.drive_commands.specs.OnMedium.{OnMediumIn}
use Rattle.drive_commands.specs.LoadUnload.{LoadUnloadWork, LoadsIn, UnloadsInto, emptied, unloaded}
use Rattle.drive_commands.specs.Checks.{ExecutesAs, verdict}
use Rattle.drive_commands.specs.Load.{LoadsInto, PowersOn}
use Rattle.drive_commands.specs.Events.{Event, Execute, FlushTurn, Insert, Load, OfDrive, PowerOn, Unload}
use Rattle.drive_commands.specs.Step.{Output, Answered, Unanswered, Step}
use Rattle.drive_commands.proofs.ReadLemmas.{read_where}

module _ (H H' : Type 0) (so : H → H') where
  work_where : (command : Command) (buffered : Bool) (sent : List ℕ) (old : Mounted) (answer : Result Reply Fault)
      (made : List Change) (new : Mounted)
      → MediumWork H' command buffered sent old answer made new
      → MediumWork H command buffered sent old answer made new
  work_where TestUnitReady buffered sent old answer made new h = h
  work_where Rewind buffered sent old answer made new h = h
  work_where (Read asked suppress) buffered sent old answer made new h =
      read_where H H' so suppress asked old answer made new h
  work_where (Write asked) buffered sent old answer made new h = h
  work_where (WriteFilemarks count immediate) buffered sent old answer made new h = h
  work_where (Space code count) buffered sent old answer made new h = h
  work_where Erase buffered sent old answer made new h = h
  work_where (Locate object part) buffered sent old answer made new h = h
  work_where ReadPosition buffered sent old answer made new h = h
  work_where (RequestSense room) buffered sent old answer made new h = h
  work_where ReadBlockLimits buffered sent old answer made new h = h
  work_where (Inquiry room) buffered sent old answer made new h = h
  work_where (PersistentReserveIn action room) buffered sent old answer made new h = h
  work_where (PersistentReserveOut action bytes) buffered sent old answer made new h = h
  work_where (ModeSelect length) buffered sent old answer made new h = h
  work_where (ModeSense room bare) buffered sent old answer made new h = h
  work_where (LoadUnload load) buffered sent old answer made new h = h

  parked_where : (stored : Option (List Part)) (torn : List Change) (room : Option ℕ) (taken : List Change)
      (unread : Bool) (new : MediumState)
      → IsParked H' stored torn room taken unread new → IsParked H stored torn room taken unread new
  parked_where stored torn room taken unread new h =
      record {
        parked = h.parked;
        works = h.works;
        nothing_pending = h.nothing_pending;
        unread_is = h.unread_is;
        gives = λ honest. h.gives (so honest);
        room_is = λ honest. h.room_is (so honest);
      }

  stays_where : (old new : MediumState) → StaysParked H' old new → StaysParked H old new
  stays_where old new h = parked_where old.stored old.torn old.room [] old.unread new h

  unopened_where : (old new : MediumState) → IsUnopened H' old new → IsUnopened H old new
  unopened_where old new h =
      record {
        stays = record {
          parked = h.stays.parked;
          works = h.stays.works;
          nothing_pending = h.stays.nothing_pending;
          unread_is = h.stays.unread_is;
          gives = λ here. h.stays.gives (so here.0, here.1);
          room_is = λ here. h.stays.room_is (so here.0, here.1);
        };
        torn = λ honest. h.torn (so honest);
      }

  wakes_from_where : (awake : Bool) (old : MediumState) (woke : Result Unit MediumError) (new : MediumState)
      → WakesFrom H' awake old woke new → WakesFrom H awake old woke new
  wakes_from_where true old (Ok done) new h = h
  wakes_from_where true old (Err Errors.Failed) new h = h
  wakes_from_where true old (Err (Errors.Refused cause)) new h = h
  wakes_from_where true old (Err Errors.NoMemory) new h = h
  wakes_from_where true old (Err Errors.SideFull) new h = h
  wakes_from_where true old (Err Errors.Device) new h = h
  wakes_from_where true old (Err Errors.Unreadable) new h = h
  wakes_from_where false old (Ok done) new h = (h.0, λ honest. h.1 (so honest))
  wakes_from_where false old (Err Errors.NoMemory) new h = stays_where old new h
  wakes_from_where false old (Err Errors.Device) new h = unopened_where old new h
  wakes_from_where false old (Err Errors.Unreadable) new h =
      (stays_where old new h.0, λ honest. h.1 (so honest))
  wakes_from_where false old (Err Errors.Failed) new h = h
  wakes_from_where false old (Err (Errors.Refused cause)) new h = h
  wakes_from_where false old (Err Errors.SideFull) new h = h

  parks_where : (failed : Bool) (old new : MediumState) → IsParkedFrom H' failed old new → IsParkedFrom H failed old new
  parks_where false old new h = parked_where (Some (volume_of old)) [] old.room old.pending false new h
  parks_where true old new h = parked_where old.stored old.torn old.room [] false new h

  park_where : (old : MediumState) (parking : Result Unit MediumError) (new : MediumState)
      → Parks H' old parking new → Parks H old parking new
  park_where old (Ok done) new h = parks_where old.failed old new h
  park_where old (Err Errors.Device) new h = h
  park_where old (Err Errors.NoMemory) new h = h
  park_where old (Err Errors.SideFull) new h = h
  park_where old (Err Errors.Failed) new h = h
  park_where old (Err Errors.Unreadable) new h = h
  park_where old (Err (Errors.Refused cause)) new h = h

  unloads_where : (leave : Machine → MediumState → Machine) (bay : Bay MediumState) (old : Machine)
      (answer : Result Reply Fault) (made : Made) (new : Machine)
      → UnloadsInto leave H' bay old answer made new → UnloadsInto leave H bay old answer made new
  unloads_where leave Empty old answer made new h = h
  unloads_where leave (Unloaded medium) old answer made new h = h
  unloads_where leave (Loaded medium) old answer made new h =
      (h.0, h.1, park_where medium h.0 h.1 h.2, h.3, h.4)

  loads_in_where : (bay : Bay MediumState) (nexus : ℕ) (old : Machine) (answer : Result Reply Fault) (made : Made)
      (new : Machine) → LoadsIn H' bay nexus old answer made new → LoadsIn H bay nexus old answer made new
  loads_in_where Empty nexus old answer made new h = h
  loads_in_where (Unloaded medium) nexus old answer made new h =
      (h.0, h.1, wakes_from_where medium.awake medium h.0 h.1 h.2, h.3, h.4)
  loads_in_where (Loaded medium) nexus old answer made new h = h

  load_unload_where : (load : Bool) (nexus : ℕ) (old : Machine) (answer : Result Reply Fault) (made : Made)
      (new : Machine) → LoadUnloadWork H' load nexus old answer made new → LoadUnloadWork H load nexus old answer made
      new
  load_unload_where true nexus old answer made new h = loads_in_where old.bay nexus old answer made new h
  load_unload_where false nexus old answer made new h = unloads_where unloaded old.bay old answer made new h

  drive_work_where : (command : Command) (nexus : ℕ) (sent : List ℕ) (old : Machine) (answer : Result Reply Fault)
      (made : Made) (new : Machine)
      → DriveWork H' command nexus sent old answer made new → DriveWork H command nexus sent old answer made new
  drive_work_where (RequestSense room) nexus sent old answer made new h = h
  drive_work_where ReadBlockLimits nexus sent old answer made new h = h
  drive_work_where (Inquiry room) nexus sent old answer made new h = h
  drive_work_where (PersistentReserveIn action room) nexus sent old answer made new h = h
  drive_work_where (PersistentReserveOut action bytes) nexus sent old answer made new h = h
  drive_work_where (ModeSelect length) nexus sent old answer made new h = h
  drive_work_where (ModeSense room bare) nexus sent old answer made new h = h
  drive_work_where TestUnitReady nexus sent old answer made new h = h
  drive_work_where Rewind nexus sent old answer made new h = h
  drive_work_where (Read asked suppress) nexus sent old answer made new h = h
  drive_work_where (Write asked) nexus sent old answer made new h = h
  drive_work_where (WriteFilemarks count immediate) nexus sent old answer made new h = h
  drive_work_where (Space code count) nexus sent old answer made new h = h
  drive_work_where Erase nexus sent old answer made new h = h
  drive_work_where (Locate object part) nexus sent old answer made new h = h
  drive_work_where ReadPosition nexus sent old answer made new h = h
  drive_work_where (LoadUnload load) nexus sent old answer made new h =
      load_unload_where load nexus old answer made new h

  module _ (old : Machine) (answer : Result Reply Fault) (made : Made) (new : Machine) where
    bay_work_where : (bay : Bay MediumState) (command : Command) (sent : List ℕ)
        → OnMediumIn bay (MediumWork H' command old.buffered sent) old answer made new
        → OnMediumIn bay (MediumWork H command old.buffered sent) old answer made new
    bay_work_where (Loaded medium) command sent h = (
      h.0,
      work_where command old.buffered sent (mounted medium old.position) answer made.changes h.0 h.1,
      h.2,
      h.3,
    )
    bay_work_where Empty command sent h = h
    bay_work_where (Unloaded medium) command sent h = h

    work_by_where : (needs : Bool) (command : Command) (nexus : ℕ) (sent : List ℕ)
        → WorkBy needs H' command nexus sent old answer made new → WorkBy needs H command nexus sent old answer made new
    work_by_where true command nexus sent h = bay_work_where old.bay command sent h
    work_by_where false command nexus sent h = drive_work_where command nexus sent old answer made new h

    executes_where : (judged : Result Command Denial) (request : Request)
        → ExecutesAs H' judged request old answer made new → ExecutesAs H judged request old answer made new
    executes_where (Err denial) request h = h
    executes_where (Ok command) request h =
        work_by_where (needs_medium (code_of command)) command request.nexus request.sent h

  loads_where : (bay : Bay MediumState) (medium : MediumState) (old : Machine) (answer : Result Reply Fault)
      (made : Made) (new : Machine)
      → LoadsInto H' bay medium old answer made new → LoadsInto H bay medium old answer made new
  loads_where Empty medium old answer made new h =
      (h.0, h.1, wakes_from_where medium.awake medium h.0 h.1 h.2, h.3, h.4)
  loads_where (Unloaded other) medium old answer made new h = h
  loads_where (Loaded other) medium old answer made new h = h

  powers_where : (medium : Option MediumState) (keeper : KeeperState) (outcome : Result Unit Fault) (made : Made)
      (new : Machine) → PowersOn H' medium keeper outcome made new → PowersOn H medium keeper outcome made new
  powers_where None keeper outcome made new h = h
  powers_where (Some medium) keeper outcome made new h =
      (h.0, h.1, h.2, wakes_from_where medium.awake medium h.0 h.1 h.3, h.4, h.5, h.6, h.7)

  -- a step over a medium that is honest wherever another fact holds
  pub step_where : (old : Machine) (event : Event OfDrive) (output : Output) (made : Made) (new : Machine)
      → Step H' old event output made new → Step H old event output made new
  step_where old (Execute request) (Answered answer) made new h =
      executes_where old answer made new (verdict old request) request h
  step_where old FlushTurn (Unanswered outcome) made new h = h
  step_where old (Load medium) (Answered answer) made new h = loads_where old.bay medium old answer made new h
  step_where old (Insert medium) (Unanswered outcome) made new h = h
  step_where old Unload (Answered answer) made new h = unloads_where emptied old.bay old answer made new h
  step_where old (PowerOn medium keeper) (Unanswered outcome) made new h =
      powers_where medium keeper outcome made new h
  step_where old (Execute request) (Unanswered outcome) made new h = absurd h
  step_where old FlushTurn (Answered answer) made new h = absurd h
  step_where old (Load medium) (Unanswered outcome) made new h = absurd h
  step_where old (Insert medium) (Answered answer) made new h = absurd h
  step_where old (PowerOn medium keeper) (Answered answer) made new h = absurd h
  step_where old Unload (Unanswered outcome) made new h = absurd h
