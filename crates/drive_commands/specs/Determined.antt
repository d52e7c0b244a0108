-- Where no outcome came between, an event has one answer.
use Rattle.std.specs.Prelude.{◌≡◌, ◌&&◌, not, List, [], ◌∷◌, filter, All, IfOk, IfSome, Option, None, Some, Ok, Err, Bool, true, false}
use Rattle.volume_core.specs.declared.changes.Change.{Change}
use Rattle.volume_core.specs.Volume.{Part}
use Rattle.volume_core.specs.Medium.{MediumState, volume_of}
use Rattle.scsi_opcodes.specs.declared.commands.Command.{Command}
use Rattle.scsi_opcodes.specs.declared.commands.Command.TheVariants.{LoadUnload}
use Rattle.pr_core.specs.Keepers.{KeeperState}
use Rattle.drive_commands.specs.declared.bays.Bay.{Bay}
use Rattle.drive_commands.specs.declared.bays.Bay.TheVariants.{Unloaded}
use Rattle.drive_commands.specs.Checks.{verdict}
use Rattle.drive_commands.specs.State.{Machine, DriveState, bay_of, medium_in}
use Rattle.drive_commands.specs.Relations.{Made}
use Rattle.drive_commands.specs.Events.{Event, Execute, FlushTurn, Insert, Load, OfDrive, PowerOn, Unload}
use Rattle.drive_commands.specs.Step.{Output, Answered, Unanswered, Step, replies_of}
use Rattle.drive_commands.specs.Run.{Run}

-- over an honest medium, a step that hangs on its honesty is a step of the machine (own)
abbrev pub HonestStepsAreSteps : {M : Type 0} → (M → Type 0) → Type 0
HonestStepsAreSteps {M} honest =
    (medium : M) (old : Machine) (event : Event OfDrive) (output : Output) (made : Made) (new : Machine)
    → honest medium → Step (honest medium) old event output made new → Step (Unit {0}) old event output made new

-- what the side of a parked medium gives: its volume, if any, and with it none or all of some changes (own)
pub record SideSight : Type 0 where
  pub stored : Option (List Part)
  pub torn : List Change

-- a medium is awake, and has not failed (own)
abbrev pub is_sound : MediumState → Bool
is_sound medium = medium.awake && not medium.failed

-- a medium that is awake and works shows nothing of its side, a parked or a failed one what the side gives (own)
abbrev pub side_sight : Bool → MediumState → Option SideSight
side_sight true medium = None
side_sight false medium = Some (record { stored = medium.stored; torn = medium.torn })

-- a medium, except for how its volume is split into what is stored and what is pending while it is awake and works, and
-- for the room of its side (own)
pub record Sight : Type 0 where
  pub awake : Bool
  pub volume : List Part
  pub failed : Bool
  pub side : Option SideSight

-- what of a medium is seen: while it is awake and works its volume, whatever of it is stored (own)
abbrev pub sight_of : MediumState → Sight
sight_of medium =
    record {
      awake = medium.awake;
      volume = volume_of medium;
      failed = medium.failed;
      side = side_sight (is_sound medium) medium;
    }

-- a keeper, except for the room of its store (own)
abbrev pub without_room : KeeperState → KeeperState
without_room keeper = record keeper { room = None }

-- a drive as it is seen from outside (own)
abbrev pub seen_of : Machine → DriveState Sight KeeperState
seen_of machine = record {
  bay = bay_of sight_of machine.bay;
  position = machine.position;
  buffered = machine.buffered;
  deferred = machine.deferred;
  attentions = machine.attentions;
  reservations = machine.reservations;
  keeper = without_room machine.keeper;
  accepted = 0;
}

-- the changes that a side which is shown may give, or may not (own)
abbrev pub torn_seen : Option SideSight → List Change
torn_seen None = []
torn_seen (Some side) = side.torn

-- it is sure what the side of a medium that is seen so gives: no frame was in flight when a device failed (own)
abbrev pub IsSureSight : Sight → Type 0
IsSureSight sight = torn_seen sight.side ≡ []

-- the same of a medium (own)
abbrev pub IsSure : MediumState → Type 0
IsSure medium = IsSureSight (sight_of medium)

-- the same for the medium in such a drive, if there is one (own)
abbrev pub IsSureDrive : DriveState Sight KeeperState → Type 0
IsSureDrive seen = IfSome (medium_in seen.bay) IsSureSight

-- it is sure how a medium is opened: one that is awake stays as it is, and of a parked one no frame was in flight when
-- a device failed (own)
abbrev pub OpensSurely : MediumState → Type 0
OpensSurely medium = medium.awake ≡ false → medium.torn ≡ []

-- It is sure how a command opens a medium. Only LOAD opens one: the medium in the drive that is not loaded (own).
abbrev pub IsSureCommand : Command → Bay MediumState → Type 0
IsSureCommand (LoadUnload true) (Unloaded medium) = OpensSurely medium
IsSureCommand _ _ = Unit {0}

-- It is sure how an event opens a medium. A LOAD that is carried out, a loading and a power on open one, and nothing
-- else does (own).
abbrev pub IsSureEvent : Machine → Event OfDrive → Type 0
IsSureEvent old (Execute request) = IfOk (verdict old request) (λ command. IsSureCommand command old.bay)
IsSureEvent old (Load medium) = OpensSurely medium
IsSureEvent old (PowerOn medium keeper) = IfSome medium OpensSurely
IsSureEvent old _ = Unit {0}

-- where an event takes a medium in, it is sure what its side gives (own)
abbrev pub BringsSure : Event OfDrive → Type 0
BringsSure (Load medium) = IsSure medium
BringsSure (Insert medium) = IsSure medium
BringsSure (PowerOn medium keeper) = IfSome medium IsSure
BringsSure _ = Unit {0}

-- two media that may be there are seen alike (own)
abbrev pub AreSeenAlike : Option MediumState → Option MediumState → Type 0
AreSeenAlike (Some medium) (Some other) = sight_of medium ≡ sight_of other
AreSeenAlike None None = Unit {0}
AreSeenAlike _ _ = ⊥

-- two events ask the same, and take in media and keepers that are seen alike (own)
abbrev pub AskAlike : Event OfDrive → Event OfDrive → Type 0
AskAlike (Execute request) (Execute other) = request ≡ other
AskAlike (Load medium) (Load other) = sight_of medium ≡ sight_of other
AskAlike (Insert medium) (Insert other) = sight_of medium ≡ sight_of other
AskAlike (PowerOn medium keeper) (PowerOn other beside) =
    AreSeenAlike medium other × (without_room keeper ≡ without_room beside)
AskAlike FlushTurn FlushTurn = Unit {0}
AskAlike Unload Unload = Unit {0}
AskAlike _ _ = ⊥

-- the events of two lists ask alike, one by one (own)
abbrev pub AllAskAlike : List (Event OfDrive) → List (Event OfDrive) → Type 0
AllAskAlike [] [] = Unit {0}
AllAskAlike (event ∷ events) (other ∷ others) = AskAlike event other × AllAskAlike events others
AllAskAlike _ _ = ⊥

-- whether an event is none of a flusher (own)
abbrev pub is_no_turn : Event OfDrive → Bool
is_no_turn FlushTurn = false
is_no_turn _ = true

-- the events except for the flusher's turns (own)
abbrev pub without_turns : List (Event OfDrive) → List (Event OfDrive)
without_turns events = filter is_no_turn events

-- it met no fault and no full side, and memory did not run out (own)
abbrev pub IsCalm : Output → Type 0
IsCalm (Answered (Ok reply)) = Unit {0}
IsCalm (Answered (Err fault)) = ⊥
IsCalm (Unanswered (Ok done)) = Unit {0}
IsCalm (Unanswered (Err fault)) = ⊥

-- each event of a run and the drive that it comes to have this relation (own)
abbrev pub InRun : (P : Machine → Event OfDrive → Type 0) (old : Machine) (events : List (Event OfDrive))
    (outputs : List Output) (made : Made) (new : Machine) → Run (Unit {0}) old events outputs made new → Type 0
InRun P old (event ∷ events) (output ∷ outputs) made new run =
    P old event × InRun P run.0 events outputs run.2 new run.4
InRun P old [] outputs made new run = Unit {0}
InRun P old (event ∷ events) [] made new run = Unit {0}

-- Both had the same outcome and made the same changes, and the drives are seen alike. Under a condition it is sure what
-- the sides of their media give (own).
pub record AreAlike {R : Type 0} (where_sure : Type 0) (out other : R) (made others : Made) (new beside : Machine) :
    Type 0 where
  pub outputs : out ≡ other
  pub changes : made ≡ others
  pub drives : seen_of new ≡ seen_of beside
  pub sure : where_sure → IsSureDrive (seen_of new)

-- Two steps from drives that are seen alike, by events that ask alike, end alike where neither meets a fault or a full
-- side, and memory does not run out. Where an event opens a medium, it has to be sure how that is opened. What was sure
-- of the side of a medium in the drive stays so (own).
abbrev pub StepsAreDetermined : Type 0
StepsAreDetermined =
    (old beside : Machine) (event other : Event OfDrive) (output output' : Output) (made made' : Made)
    (new new' : Machine)
    → seen_of old ≡ seen_of beside → IsSureEvent old event → AskAlike event other → IsCalm output → IsCalm output'
    → Step (Unit {0}) old event output made new → Step (Unit {0}) beside other output' made' new'
    → AreAlike (IsSureDrive (seen_of old) × BringsSure event) output output' made made' new new'

-- Two runs start from drives that are seen alike. None of these comes in them, and their events ask alike, except for
-- flusher's turns, which may stand at different places. Then the replies are the same, and the runs end alike. Again
-- each event of one run that opens a medium has to be sure how that is opened, in the drive that it comes to (own).
abbrev pub RunsAreDetermined : Type 0
RunsAreDetermined =
    (old beside : Machine) (events others : List (Event OfDrive)) (outputs outputs' : List Output) (made made' : Made)
    (new new' : Machine)
    → seen_of old ≡ seen_of beside
    → AllAskAlike (without_turns events) (without_turns others)
    → All IsCalm outputs → All IsCalm outputs'
    → (run : Run (Unit {0}) old events outputs made new) → InRun IsSureEvent old events outputs made new run
    → Run (Unit {0}) beside others outputs' made' new'
    → AreAlike (IsSureDrive (seen_of old) × All BringsSure (without_turns events)) (replies_of outputs)
    (replies_of outputs') made made' new new'

-- It is sure how each medium of a run is opened, if at its start it is sure what the side of the drive's medium gives,
-- no event meets one of these, and the run takes in only such media (own).
abbrev pub RunsStaySure : Type 0
RunsStaySure =
    (old : Machine) (events : List (Event OfDrive)) (outputs : List Output) (made : Made) (new : Machine)
    → IsSureDrive (seen_of old) → All BringsSure events → All IsCalm outputs
    → (run : Run (Unit {0}) old events outputs made new) → InRun IsSureEvent old events outputs made new run
