-- Where no fault comes, a run has one outcome, wherever flusher's turns stand in it.
use Rattle.std.proofs.Common.{◌≡◌, List, [], ◌∷◌, Option, None, Some, Result, Ok, Err, Bool, true, false, sym, ◌∙◌, ap, subst, refl}
use Rattle.std.specs.Prelude.{All, IfOk, IfSome, ◌&&◌, not}
use Rattle.std.specs.List.{cons_option}
use Rattle.std.proofs.lemmas.List.Elements.{All-head, All-tail}
use Rattle.scsi_sense.specs.declared.replies.Reply.{Reply}
use Rattle.scsi_opcodes.specs.declared.commands.Command.{Command}
use Rattle.scsi_opcodes.specs.declared.commands.Command.TheVariants.{TestUnitReady, Rewind, RequestSense, ReadBlockLimits, Read, Write, WriteFilemarks, Space, Inquiry, Erase, Locate, ReadPosition, PersistentReserveIn, PersistentReserveOut, ModeSelect, ModeSense, LoadUnload}
use Rattle.volume_core.specs.Medium.{MediumState}
use Rattle.drive_commands.specs.State.{Machine, bay_of, medium_in}
use Rattle.drive_commands.specs.Relations.{Made, made_nothing, made_after}
use Rattle.drive_commands.specs.Events.{Event, Execute, FlushTurn, Insert, Load, OfDrive, PowerOn, Unload}
use Rattle.drive_commands.specs.Step.{Output, Step, reply_in, replies_of}
use Rattle.drive_commands.specs.Run.{Run}
use Rattle.drive_commands.specs.declared.bays.Bay.{Bay}
use Rattle.drive_commands.specs.declared.bays.Bay.TheVariants.{Empty, Unloaded, Loaded}
use Rattle.drive_commands.specs.declared.conditions.Denial.{Denial}
use Rattle.drive_commands.specs.Checks.{verdict}
use Rattle.drive_commands.specs.Determined.{AllAskAlike, AreAlike, AreSeenAlike, AskAlike, BringsSure, InRun, IsCalm, IsSure, IsSureCommand, IsSureDrive, IsSureEvent, IsSureSight, OpensSurely, RunsAreDetermined, RunsStaySure, StepsAreDetermined, seen_of, side_sight, sight_of, torn_seen, without_turns}
use Rattle.drive_theorems.proofs.DeterminedLemmas.{turn_unseen}

-- a run without a fault, in which each step may start from any drive that is seen as the one before it left it, and
-- each event and that drive have this relation
abbrev SeenRun : (Machine → Event OfDrive → Type 0) → Machine → List (Event OfDrive) → List Output → Made → Machine
    → Type 0
SeenRun P old [] [] made new = (made ≡ made_nothing) × (seen_of new ≡ seen_of old)
SeenRun P old (event ∷ events) (output ∷ outputs) made new =
    (from : Machine) × (mid : Machine) × (first : Made) × (rest : Made)
    × (seen_of from ≡ seen_of old) × IsCalm output × Step (Unit {0}) from event output first mid
    × SeenRun P mid events outputs rest new × (made ≡ made_after first rest) × P from event
SeenRun P old [] (output ∷ outputs) made new = ⊥
SeenRun P old (event ∷ events) [] made new = ⊥

-- it may start from any drive that is seen so
seen_run_from : (P : Machine → Event OfDrive → Type 0) (old beside : Machine) (events : List (Event OfDrive))
    (outputs : List Output) (made : Made) (new : Machine)
    → seen_of old ≡ seen_of beside → SeenRun P old events outputs made new → SeenRun P beside events outputs made new
seen_run_from P old beside [] [] made new e h = (h.0, h.1 ∙ e)
seen_run_from P old beside (event ∷ events) (output ∷ outputs) made new e h =
    (h.0, h.1, h.2, h.3, h.4 ∙ e, h.5, h.6, h.7, h.8, h.9)
seen_run_from P old beside [] (output ∷ outputs) made new e h = absurd h
seen_run_from P old beside (event ∷ events) [] made new e h = absurd h

-- any event and any drive have it
abbrev Any : Machine → Event OfDrive → Type 0
Any machine event = Unit {0}

-- what such runs make, leave and answer is one
seen_runs_alike : StepsAreDetermined → (old beside : Machine) (events others : List (Event OfDrive))
    (outputs outputs' : List Output) (made made' : Made) (new new' : Machine) (S : Type 0)
    → seen_of old ≡ seen_of beside
    → (S → IsSureDrive (seen_of old)) → (S → All BringsSure events) → AllAskAlike events others
    → SeenRun IsSureEvent old events outputs made new → SeenRun Any beside others outputs' made' new'
    → AreAlike S outputs outputs' made made' new new'
seen_runs_alike steps old beside [] [] [] [] made made' new new' S e sure brings asks h k =
    record {
      outputs = refl;
      changes = h.0 ∙ sym k.0;
      drives = h.1 ∙ e ∙ sym k.1;
      sure = λ known. subst IsSureDrive (sym h.1) (sure known);
    }
seen_runs_alike steps old beside (i ∷ is) (j ∷ js) (o ∷ os) (o' ∷ os') made made' new new' S e sure brings asks h k =
    let step = steps h.0 k.0 i j o o' h.2 k.2 h.1 k.1 (h.4 ∙ e ∙ sym k.4) h.9 asks.0 h.5 k.5 h.6 k.6 in
    let surely : S → IsSureDrive (seen_of h.1) =
    λ known. step.sure (subst IsSureDrive (sym h.4) (sure known), All-head BringsSure i is (brings known)) in
    let rest =
    seen_runs_alike steps h.1 k.1 is js os os' h.3 k.3 new new' S step.drives surely
    (λ known. All-tail BringsSure i is (brings known)) asks.1 h.7 k.7 in
    record {
      outputs = λ n. step.outputs n ∷ rest.outputs n;
      changes = h.8 ∙ (λ n. made_after (step.changes n) (rest.changes n)) ∙ sym k.8;
      drives = rest.drives;
      sure = rest.sure;
    }
seen_runs_alike steps old beside [] (j ∷ js) outputs outputs' made made' new new' S e sure brings asks h k = absurd asks
seen_runs_alike steps old beside (i ∷ is) [] outputs outputs' made made' new new' S e sure brings asks h k = absurd asks
seen_runs_alike steps old beside [] [] (o ∷ os) outputs' made made' new new' S e sure brings asks h k = absurd h
seen_runs_alike steps old beside [] [] [] (o ∷ os) made made' new new' S e sure brings asks h k = absurd k
seen_runs_alike steps old beside (i ∷ is) (j ∷ js) [] outputs' made made' new new' S e sure brings asks h k = absurd h
seen_runs_alike steps old beside (i ∷ is) (j ∷ js) (o ∷ os) [] made made' new new' S e sure brings asks h k = absurd k

-- such a run of events without turns, with these replies
record Untimed (P : Machine → Event OfDrive → Type 0) (old : Machine) (events : List (Event OfDrive))
    (replies : List Reply) (made : Made) (new : Machine) : Type 0 where
  pub outputs : List Output
  pub replies_are : replies ≡ replies_of outputs
  pub run : SeenRun P old events outputs made new

-- a step stands before such a run
untimed_step : (P : Machine → Event OfDrive → Type 0) (old mid new : Machine) (event : Event OfDrive)
    (events : List (Event OfDrive)) (output : Output) (outputs : List Output) (made first rest : Made)
    → P old event → IsCalm output → Step (Unit {0}) old event output first mid → made ≡ made_after first rest
    → Untimed P mid events (replies_of outputs) rest new
    → Untimed P old (event ∷ events) (replies_of (output ∷ outputs)) made new
untimed_step P old mid new event events output outputs made first rest has calm step is later = record {
  outputs = output ∷ later.outputs;
  replies_are = ap (cons_option (reply_in output)) later.replies_are;
  run = (old, mid, first, rest, refl, calm, step, later.run, is, has);
}

-- a turn before such a run leaves it as it is
untimed_turn : (P : Machine → Event OfDrive → Type 0) (old mid new : Machine) (events : List (Event OfDrive))
    (output : Output) (outputs : List Output) (made first rest : Made) → IsCalm output
    → Step (Unit {0}) old FlushTurn output first mid → made ≡ made_after first rest
    → Untimed P mid events (replies_of outputs) rest new
    → Untimed P old events (replies_of (output ∷ outputs)) made new
untimed_turn P old mid new events output outputs made first rest calm step is later =
    let unseen = turn_unseen old output first mid calm step in
    let same : made ≡ rest = is ∙ ap (λ (m : Made). made_after m rest) unseen.made_is in
    record {
      outputs = later.outputs;
      replies_are =
          ap (λ (o : Output). cons_option (reply_in o) (replies_of outputs)) unseen.output_is ∙ later.replies_are;
      run =
          subst (λ (m : Made). SeenRun P old events later.outputs m new) (sym same)
          (seen_run_from P mid old events later.outputs rest new unseen.drive_is later.run);
    }

-- a run without a fault, less its turns
untimed : (P : Machine → Event OfDrive → Type 0) (old : Machine) (events : List (Event OfDrive))
    (outputs : List Output) (made : Made) (new : Machine) → All IsCalm outputs
    → (h : Run (Unit {0}) old events outputs made new)
    → InRun P old events outputs made new h → Untimed P old (without_turns events) (replies_of outputs) made new
untimed P old [] [] made new calm h has =
    record { outputs = []; replies_are = refl; run = (h.0, ap seen_of h.1) }
untimed P old (FlushTurn ∷ is) (o ∷ os) made new calm h has =
    untimed_turn P old h.0 new (without_turns is) o os made h.1 h.2 (All-head IsCalm o os calm) h.3 h.5
    (untimed P h.0 is os h.2 new (All-tail IsCalm o os calm) h.4 has.1)
untimed P old (Execute request ∷ is) (o ∷ os) made new calm h has =
    untimed_step P old h.0 new (Execute request) (without_turns is) o os made h.1 h.2 has.0 (All-head IsCalm o os
    calm) h.3
    h.5 (untimed P h.0 is os h.2 new (All-tail IsCalm o os calm) h.4 has.1)
untimed P old (Load medium ∷ is) (o ∷ os) made new calm h has =
    untimed_step P old h.0 new (Load medium) (without_turns is) o os made h.1 h.2 has.0 (All-head IsCalm o os calm) h.3
    h.5 (untimed P h.0 is os h.2 new (All-tail IsCalm o os calm) h.4 has.1)
untimed P old (Insert medium ∷ is) (o ∷ os) made new calm h has =
    untimed_step P old h.0 new (Insert medium) (without_turns is) o os made h.1 h.2 has.0 (All-head IsCalm o os calm)
    h.3
    h.5 (untimed P h.0 is os h.2 new (All-tail IsCalm o os calm) h.4 has.1)
untimed P old (PowerOn medium keeper ∷ is) (o ∷ os) made new calm h has =
    untimed_step P old h.0 new (PowerOn medium keeper) (without_turns is) o os made h.1 h.2 has.0 (All-head IsCalm o
    os calm) h.3
    h.5 (untimed P h.0 is os h.2 new (All-tail IsCalm o os calm) h.4 has.1)
untimed P old (Unload ∷ is) (o ∷ os) made new calm h has =
    untimed_step P old h.0 new Unload (without_turns is) o os made h.1 h.2 has.0 (All-head IsCalm o os calm) h.3 h.5
    (untimed P h.0 is os h.2 new (All-tail IsCalm o os calm) h.4 has.1)
untimed P old [] (o ∷ os) made new calm h has = absurd h
untimed P old (i ∷ is) [] made new calm h has = absurd h

any_run : (old : Machine) (events : List (Event OfDrive)) (outputs : List Output) (made : Made) (new : Machine)
    (run : Run (Unit {0}) old events outputs made new) → InRun Any old events outputs made new run
any_run old (event ∷ events) (output ∷ outputs) made new run =
    (tt, any_run run.0 events outputs run.2 new run.4)
any_run old [] outputs made new run = tt
any_run old (event ∷ events) [] made new run = tt

pub runs_determined : StepsAreDetermined → RunsAreDetermined
runs_determined steps old beside events others outputs outputs' made made' new new' e asks calm calm' h sure k =
    let one = untimed IsSureEvent old events outputs made new calm h sure in
    let two =
    untimed Any beside others outputs' made' new' calm' k (any_run beside others outputs' made' new' k) in
    let alike =
    seen_runs_alike steps old beside (without_turns events) (without_turns others) one.outputs two.outputs made made'
    new new' (IsSureDrive (seen_of old) × All BringsSure (without_turns events)) e (λ known. known.0)
    (λ known. known.1) asks one.run two.run in
    record {
      outputs = one.replies_are ∙ ap replies_of alike.outputs ∙ sym two.replies_are;
      changes = alike.changes;
      drives = alike.drives;
      sure = alike.sure;
    }

-- a medium of which it is sure what its side gives opens surely
opens_surely : (medium : MediumState) → IsSure medium → OpensSurely medium
opens_surely medium sure parked =
    sym (ap (λ (b : Bool). torn_seen (side_sight (b && not medium.failed) medium)) parked) ∙ sure

-- so does what a command opens in a drive whose medium is one
sure_command : (command : Command) (bay : Bay MediumState)
    → IfSome (medium_in (bay_of sight_of bay)) IsSureSight → IsSureCommand command bay
sure_command command bay sure = opens command bay sure
  where
    opens_in : (bay : Bay MediumState) → IfSome (medium_in (bay_of sight_of bay)) IsSureSight
        → IsSureCommand (LoadUnload true) bay
    opens_in (Unloaded medium) sure = opens_surely medium sure
    opens_in Empty sure = tt
    opens_in (Loaded medium) sure = tt

    opens : (command : Command) (bay : Bay MediumState) → IfSome (medium_in (bay_of sight_of bay)) IsSureSight
        → IsSureCommand command bay
    opens (LoadUnload true) bay sure = opens_in bay sure
    opens (LoadUnload false) bay sure = tt
    opens TestUnitReady bay sure = tt
    opens Rewind bay sure = tt
    opens (RequestSense room) bay sure = tt
    opens ReadBlockLimits bay sure = tt
    opens (Read asked suppress) bay sure = tt
    opens (Write asked) bay sure = tt
    opens (WriteFilemarks count immediate) bay sure = tt
    opens (Space code count) bay sure = tt
    opens (Inquiry room) bay sure = tt
    opens Erase bay sure = tt
    opens (Locate object part) bay sure = tt
    opens ReadPosition bay sure = tt
    opens (PersistentReserveIn action room) bay sure = tt
    opens (PersistentReserveOut action bytes) bay sure = tt
    opens (ModeSelect asked) bay sure = tt
    opens (ModeSense room bare) bay sure = tt

sure_judged : (judged : Result Command Denial) (bay : Bay MediumState)
    → IfSome (medium_in (bay_of sight_of bay)) IsSureSight → IfOk judged (λ command. IsSureCommand command bay)
sure_judged (Ok command) bay sure = sure_command command bay sure
sure_judged (Err denial) bay sure = tt

sure_if_some : (medium : Option MediumState) → IfSome medium IsSure → IfSome medium OpensSurely
sure_if_some None sure = tt
sure_if_some (Some medium) sure = opens_surely medium sure

-- and an event that comes to such a drive, and takes in no other medium
sure_event : (old : Machine) (event : Event OfDrive) → IsSureDrive (seen_of old) → BringsSure event
    → IsSureEvent old event
sure_event old (Execute request) sure brings = sure_judged (verdict old request) old.bay sure
sure_event old FlushTurn sure brings = tt
sure_event old (Load medium) sure brings = opens_surely medium brings
sure_event old (Insert medium) sure brings = tt
sure_event old Unload sure brings = tt
sure_event old (PowerOn medium keeper) sure brings = sure_if_some medium brings

-- an event asks as it does
seen_as_it_is : (medium : Option MediumState) → AreSeenAlike medium medium
seen_as_it_is None = tt
seen_as_it_is (Some medium) = refl

asks_as_it_does : (event : Event OfDrive) → AskAlike event event
asks_as_it_does (Execute request) = refl
asks_as_it_does FlushTurn = tt
asks_as_it_does (Load medium) = refl
asks_as_it_does (Insert medium) = refl
asks_as_it_does Unload = tt
asks_as_it_does (PowerOn medium keeper) = (seen_as_it_is medium, refl)

pub runs_stay_sure : StepsAreDetermined → RunsStaySure
runs_stay_sure steps old [] outputs made new sure brings calm run = tt
runs_stay_sure steps old (event ∷ events) [] made new sure brings calm run = tt
runs_stay_sure steps old (event ∷ events) (output ∷ outputs) made new sure brings calm run =
    let asked = All-head BringsSure event events brings in
    let opens = sure_event old event sure asked in
    let quiet = All-head IsCalm output outputs calm in
    let step =
    steps old old event event output output run.1 run.1 run.0 run.0 refl opens (asks_as_it_does event) quiet quiet
    run.3 run.3 in (
      opens,
      runs_stay_sure steps run.0 events outputs run.2 new (step.sure (sure, asked)) (All-tail BringsSure event events
          brings) (All-tail IsCalm output outputs calm) run.4,
    )
