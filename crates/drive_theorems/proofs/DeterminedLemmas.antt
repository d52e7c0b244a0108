-- Where no fault comes, a step has one outcome, and so has a run, wherever flusher's turns stand in it.
use Rattle.std.proofs.Common.{◌≡◌, Option, IfSome, Ok, Err, true, not, ◌&&◌, subst, sym, ◌∙◌, ap, refl}
use Rattle.volume_core.specs.declared.media.Turn.{Turn}
use Rattle.volume_core.specs.declared.media.Turn.TheVariants.{Idle, Stored, Device}
use Rattle.volume_core.specs.Medium.{MediumState, volume_of, Turns}
use Rattle.positioning.specs.Laws.{NoSpaceEndsTwice, NoLocateEndsTwice}
use Rattle.pr_core.specs.Keepers.{KeeperState}
use Rattle.pr_core.specs.Laws.{NoOrderEndsTwice}
use Rattle.drive_commands.specs.declared.bays.Bay.{Bay}
use Rattle.drive_commands.specs.declared.bays.Bay.TheVariants.{Empty, Unloaded, Loaded}
use Rattle.drive_commands.specs.State.{DriveState, Machine, bay_of}
use Rattle.drive_commands.specs.Relations.{Made, made_nothing}
use Rattle.drive_commands.specs.Work.{Request}
use Rattle.drive_commands.specs.Turn.{TurnsIn, after_turn, turn_outcome}
use Rattle.drive_commands.specs.Events.{Event, Execute, FlushTurn, Insert, Load, OfDrive, PowerOn, Unload}
use Rattle.drive_commands.specs.Step.{Output, Answered, Unanswered, Step}
use Rattle.drive_commands.specs.Determined.{BringsSure, IsSure, IsSureDrive, IsSureEvent, OpensSurely, Sight, sight_of, side_sight, seen_of, without_room, IsCalm, AreSeenAlike, AreAlike, StepsAreDetermined}
use Rattle.drive_theorems.proofs.AlikeLemmas.{works_sight}
use Rattle.drive_commands.specs.LoadUnload.{emptied}
use Rattle.drive_theorems.proofs.DeterminedLoads.{loads, powers_on}
use Rattle.drive_theorems.proofs.DeterminedParks.{unloads_alike}
use Rattle.drive_theorems.proofs.DeterminedChecks.{requests}

-- a turn that meets no fault leaves the medium seen as it was
turns_unseen : (medium : MediumState) (turn : Turn) (left : MediumState) → medium.awake ≡ true
    → IsCalm (Unanswered (turn_outcome turn)) → Turns medium turn left → sight_of left ≡ sight_of medium
turns_unseen medium Idle left awake calm h = ap sight_of h.1
turns_unseen medium (Stored n) left awake calm h =
    works_sight (volume_of medium) left h.4
    ∙ sym (λ i. record {
      awake = awake i;
      volume = volume_of medium;
      failed = h.0 i;
      side = side_sight (awake i && not (h.0 i)) medium;
    })
turns_unseen medium Device left awake calm h = absurd calm

-- the drive with its medium as it became in a turn without a fault
after_calm : (turn : Turn) (left : MediumState) (old : Machine) → IsCalm (Unanswered (turn_outcome turn))
    → after_turn turn left old ≡ record old { bay = Loaded left }
after_calm Idle left old calm = refl
after_calm (Stored n) left old calm = refl
after_calm Device left old calm = absurd calm

-- and the drive
drive_unseen : (bay : Bay MediumState) (old : Machine) (turn : Turn) (new : Machine) → old.bay ≡ bay
    → IsCalm (Unanswered (turn_outcome turn)) → TurnsIn bay old turn new → seen_of new ≡ seen_of old
drive_unseen Empty old turn new e calm h = ap seen_of h.1
drive_unseen (Unloaded medium) old turn new e calm h = ap seen_of h.1
drive_unseen (Loaded medium) old turn new e calm h =
    let sights : sight_of h.1 ≡ sight_of medium = turns_unseen medium turn h.1 h.0 calm h.2 in
    ap seen_of (h.3 ∙ after_calm turn h.1 old calm)
    ∙ (λ i. record (seen_of old) { bay = Loaded (sights i) })
    ∙ (λ i. record (seen_of old) { bay = bay_of sight_of (sym e i) })

-- a turn of which no fault came was done, made nothing, and left the drive seen as it was
pub record IsUnseen (old : Machine) (output : Output) (made : Made) (new : Machine) : Type 0 where
  pub output_is : output ≡ Unanswered (Ok tt)
  pub made_is : made ≡ made_nothing
  pub drive_is : seen_of new ≡ seen_of old

calm_outcome : (turn : Turn) → IsCalm (Unanswered (turn_outcome turn)) → turn_outcome turn ≡ Ok tt
calm_outcome Idle calm = refl
calm_outcome (Stored n) calm = refl
calm_outcome Device calm = absurd calm

pub turn_unseen : (old : Machine) (output : Output) (made : Made) (new : Machine) → IsCalm output
    → Step (Unit {0}) old FlushTurn output made new → IsUnseen old output made new
turn_unseen old (Unanswered outcome) made new calm h =
    let calm' : IsCalm (Unanswered (turn_outcome h.0)) = rw (sym h.2) calm in
    record {
      output_is = ap Unanswered (h.2 ∙ calm_outcome h.0 calm');
      made_is = h.3;
      drive_is = drive_unseen old.bay old h.0 new refl calm' h.1;
    }
turn_unseen old (Answered answer) made new calm h = absurd h

module _ (spaces : NoSpaceEndsTwice) (locates : NoLocateEndsTwice) (orders : NoOrderEndsTwice) (old beside : Machine)
    (made made' : Made) (new
    new' : Machine) (e : seen_of old ≡ seen_of beside) where
  -- both came out alike, and what was sure of the medium in the drive stays so where the event brings a sure one
  abbrev Alike : Event OfDrive → Output → Output → Type 0
  Alike event output output' =
      AreAlike (IsSureDrive (seen_of old) × BringsSure event) output output' made made' new new'

  execute_determined : (request other : Request) (output output' : Output) → IsSureEvent old (Execute request)
      → request ≡ other
      → IsCalm output → IsCalm output' → Step (Unit {0}) old (Execute request) output made new
      → Step (Unit {0}) beside (Execute other) output' made' new' → Alike (Execute request) output output'
  execute_determined request other (Answered (Ok reply)) (Answered (Ok reply')) opens asks calm calm' h k =
      let k' : Step (Unit {0}) beside (Execute request) (Answered (Ok reply')) made' new' = rw (sym asks) at k in
      requests spaces locates orders old beside reply reply' made made' new new' e (IsSureDrive (seen_of old) × Unit
      {0})
      (λ known. known.0) request opens h k'
  execute_determined request other (Answered (Ok reply)) (Answered (Err fault)) opens asks calm calm' h k = absurd calm'
  execute_determined request other (Answered (Ok reply)) (Unanswered outcome) opens asks calm calm' h k = absurd k
  execute_determined request other (Answered (Err fault)) output' opens asks calm calm' h k = absurd calm
  execute_determined request other (Unanswered outcome) output' opens asks calm calm' h k = absurd h

  load_determined : (medium other : MediumState) (output output' : Output) → OpensSurely medium
      → sight_of medium ≡ sight_of other
      → IsCalm output → IsCalm output' → Step (Unit {0}) old (Load medium) output made new
      → Step (Unit {0}) beside (Load other) output' made' new' → Alike (Load medium) output output'
  load_determined medium other (Answered (Ok reply)) (Answered (Ok reply')) opens asks calm calm' h k =
      loads (IsSureDrive (seen_of old) × IsSure medium) made made' new new' old.bay beside.bay old beside medium other
      reply reply' e (λ known. known.0) asks opens (λ known. known.1) h k
  load_determined medium other (Answered (Ok reply)) (Answered (Err fault)) opens asks calm calm' h k = absurd calm'
  load_determined medium other (Answered (Ok reply)) (Unanswered outcome) opens asks calm calm' h k = absurd k
  load_determined medium other (Answered (Err fault)) output' opens asks calm calm' h k = absurd calm
  load_determined medium other (Unanswered outcome) output' opens asks calm calm' h k = absurd h

  power_on_determined : (medium other : Option MediumState) (keeper keeper' : KeeperState) (output output' : Output)
      → IfSome medium OpensSurely → AreSeenAlike medium other → without_room keeper ≡ without_room keeper'
      → IsCalm output → IsCalm output' → Step (Unit {0}) old (PowerOn medium keeper) output made new
      → Step (Unit {0}) beside (PowerOn other keeper') output' made' new'
      → Alike (PowerOn medium keeper) output output'
  power_on_determined medium other keeper keeper' (Unanswered outcome) (Unanswered outcome') opens asks kept calm
      calm' h k =
      powers_on (IsSureDrive (seen_of old) × IfSome medium IsSure) made made' new new' medium other keeper keeper'
      outcome
      outcome' asks opens (λ known. known.1) kept calm calm' h k
  power_on_determined medium other keeper keeper' (Unanswered outcome) (Answered answer) opens asks kept calm calm' h
      k =
      absurd k
  power_on_determined medium other keeper keeper' (Answered answer) output' opens asks kept calm calm' h k = absurd h

  insert_determined : (medium other : MediumState) (output output' : Output) → sight_of medium ≡ sight_of other
      → Step (Unit {0}) old (Insert medium) output made new → Step (Unit {0}) beside (Insert other) output' made' new'
      → Alike (Insert medium) output output'
  insert_determined medium other (Unanswered outcome) (Unanswered outcome') asks h k =
      let seen : seen_of (record old { bay = Unloaded medium }) ≡ seen_of (record beside { bay = Unloaded other }) =
      λ i. record (e i) { bay = Unloaded (asks i) } in
      record {
        outputs = ap Unanswered (h.2 ∙ sym k.2);
        changes = h.3 ∙ sym k.3;
        drives = ap seen_of h.4 ∙ seen ∙ ap seen_of (sym k.4);
        sure = λ known. subst (λ (m : Machine). IsSureDrive (seen_of m)) (sym h.4) known.1;
      }
  insert_determined medium other (Unanswered outcome) (Answered answer) asks h k = absurd k
  insert_determined medium other (Answered answer) output' asks h k = absurd h

  unload_determined : (output output' : Output) → IsCalm output → IsCalm output'
      → Step (Unit {0}) old Unload output made new → Step (Unit {0}) beside Unload output' made' new'
      → Alike Unload output output'
  unload_determined (Answered (Ok reply)) (Answered (Ok reply')) calm calm' h k =
      unloads_alike (IsSureDrive (seen_of old) × Unit {0}) made made' new new' emptied old beside
      (λ m m' same. ((λ i. record (e i) { bay = Empty }), λ surely. tt)) reply reply' e (λ known. known.0) old.bay
      beside.bay (ap (λ (x : DriveState Sight KeeperState). x.bay) e) (λ known. known.0) h k
  unload_determined (Answered (Ok reply)) (Answered (Err fault)) calm calm' h k = absurd calm'
  unload_determined (Answered (Ok reply)) (Unanswered outcome) calm calm' h k = absurd k
  unload_determined (Answered (Err fault)) output' calm calm' h k = absurd calm
  unload_determined (Unanswered outcome) output' calm calm' h k = absurd h

  turn_determined : (output output' : Output) → IsCalm output → IsCalm output'
      → Step (Unit {0}) old FlushTurn output made new → Step (Unit {0}) beside FlushTurn output' made' new'
      → Alike FlushTurn output output'
  turn_determined output output' calm calm' h k =
      let one = turn_unseen old output made new calm h in
      let two = turn_unseen beside output' made' new' calm' k in
      record {
        outputs = one.output_is ∙ sym two.output_is;
        changes = one.made_is ∙ sym two.made_is;
        drives = one.drive_is ∙ e ∙ sym two.drive_is;
        sure = λ known. subst IsSureDrive (sym one.drive_is) known.0;
      }

pub steps_determined : NoSpaceEndsTwice → NoLocateEndsTwice → NoOrderEndsTwice → StepsAreDetermined
steps_determined spaces locates orders old beside (Execute request) (Execute other) output output' made made' new new'
    e opens
    asks calm calm' h k =
    execute_determined spaces locates orders old beside made made' new new' e request other output output' opens asks
    calm
    calm' h k
steps_determined spaces locates orders old beside (Load medium) (Load other) output output' made made' new new' e opens
    asks
    calm
    calm' h k =
    load_determined spaces locates orders old beside made made' new new' e medium other output output' opens asks calm
    calm'
    h k
steps_determined spaces locates orders old beside (PowerOn medium keeper) (PowerOn other keeper') output output' made
    made' new new' e opens asks calm calm' h k =
    power_on_determined spaces locates orders old beside made made' new new' e medium other keeper keeper' output
    output'
    opens asks.0 asks.1 calm calm' h k
steps_determined spaces locates orders old beside FlushTurn FlushTurn output output' made made' new new' e opens asks
    calm
    calm' h
    k =
    turn_determined spaces locates orders old beside made made' new new' e output output' calm calm' h k
steps_determined spaces locates orders old beside (Execute request) (Load other) o o' made made' new new' e opens asks
    c c'
    h k =
    absurd asks
steps_determined spaces locates orders old beside (Execute request) (PowerOn other kept) o o' made made' new new' e
    opens
    asks c c' h k =
    absurd asks
steps_determined spaces locates orders old beside (Execute request) FlushTurn o o' made made' new new' e opens asks c
    c' h k =
    absurd asks
steps_determined spaces locates orders old beside (Load medium) (Execute other) o o' made made' new new' e opens asks c
    c' h
    k =
    absurd asks
steps_determined spaces locates orders old beside (Load medium) (PowerOn other kept) o o' made made' new new' e opens
    asks c
    c' h k =
    absurd asks
steps_determined spaces locates orders old beside (Load medium) FlushTurn o o' made made' new new' e opens asks c c' h
    k =
    absurd asks
steps_determined spaces locates orders old beside (PowerOn medium kept) (Execute other) o o' made made' new new' e opens
    asks c c' h k =
    absurd asks
steps_determined spaces locates orders old beside (PowerOn medium kept) (Load other) o o' made made' new new' e opens
    asks c
    c' h k =
    absurd asks
steps_determined spaces locates orders old beside (PowerOn medium kept) FlushTurn o o' made made' new new' e opens asks
    c c'
    h k =
    absurd asks
steps_determined spaces locates orders old beside FlushTurn (Execute other) o o' made made' new new' e opens asks c c'
    h k =
    absurd asks
steps_determined spaces locates orders old beside FlushTurn (Load other) o o' made made' new new' e opens asks c c' h
    k =
    absurd asks
steps_determined spaces locates orders old beside FlushTurn (PowerOn other kept) o o' made made' new new' e opens asks
    c c'
    h k =
    absurd asks
steps_determined spaces locates orders old beside Unload Unload output output' made made' new new' e opens asks calm
    calm' h k =
    unload_determined spaces locates orders old beside made made' new new' e output output' calm calm' h k
steps_determined spaces locates orders old beside (Execute request) Unload o o' made made' new new' e opens asks c c' h
    k =
    absurd asks
steps_determined spaces locates orders old beside (Load medium) Unload o o' made made' new new' e opens asks c c' h k =
    absurd asks
steps_determined spaces locates orders old beside (PowerOn medium kept) Unload o o' made made' new new' e opens asks c
    c' h k =
    absurd asks
steps_determined spaces locates orders old beside FlushTurn Unload o o' made made' new new' e opens asks c c' h k =
    absurd asks
steps_determined spaces locates orders old beside Unload (Execute other) o o' made made' new new' e opens asks c c' h
    k =
    absurd asks
steps_determined spaces locates orders old beside Unload (Load other) o o' made made' new new' e opens asks c c' h k =
    absurd asks
steps_determined spaces locates orders old beside Unload (PowerOn other kept) o o' made made' new new' e opens asks c
    c' h k =
    absurd asks
steps_determined spaces locates orders old beside Unload FlushTurn o o' made made' new new' e opens asks c c' h k =
    absurd asks
steps_determined spaces locates orders old beside (Insert medium) (Insert other) output output' made made' new new' e
    opens asks calm calm' h k =
    insert_determined spaces locates orders old beside made made' new new' e medium other output output' asks h k
steps_determined spaces locates orders old beside (Execute request) (Insert inserted) o o' made made' new new' e opens
    asks c c' h
    k =
    absurd asks
steps_determined spaces locates orders old beside (Load medium) (Insert inserted) o o' made made' new new' e opens
    asks c
    c' h
    k =
    absurd asks
steps_determined spaces locates orders old beside (PowerOn medium kept) (Insert inserted) o o' made made' new new' e
    opens asks c c' h
    k =
    absurd asks
steps_determined spaces locates orders old beside FlushTurn (Insert inserted) o o' made made' new new' e opens asks c c'
    h
    k =
    absurd asks
steps_determined spaces locates orders old beside Unload (Insert inserted) o o' made made' new new' e opens asks c c' h
    k =
    absurd asks
steps_determined spaces locates orders old beside (Insert medium) (Execute other) o o' made made' new new' e opens
    asks c
    c' h k =
    absurd asks
steps_determined spaces locates orders old beside (Insert medium) (Load other) o o' made made' new new' e opens asks c
    c'
    h k =
    absurd asks
steps_determined spaces locates orders old beside (Insert medium) (PowerOn other kept) o o' made made' new new' e opens
    asks c c' h k =
    absurd asks
steps_determined spaces locates orders old beside (Insert medium) FlushTurn o o' made made' new new' e opens asks c c' h
    k =
    absurd asks
steps_determined spaces locates orders old beside (Insert medium) Unload o o' made made' new new' e opens asks c c' h
    k =
    absurd asks
