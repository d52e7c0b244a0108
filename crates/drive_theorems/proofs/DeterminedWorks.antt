-- Where no fault comes, the work of a command has one answer.
use Rattle.std.proofs.Common.{◌≡◌, ℕ, List, [], Option, None, Some, IfSome, Result, Ok, Err, Bool, true, false, refl, sym, ◌∙◌, ap, subst, length}
use Rattle.scsi_sense.specs.declared.replies.Reply.{Reply}
use Rattle.scsi_sense.specs.Replies.{check_with, good_with}
use Rattle.scsi_sense.specs.declared.sense_data.Sense.{Sense}
use Rattle.scsi_sense.specs.SenseData.{sense_bytes}
use Rattle.scsi_sense.specs.Senses.{medium_not_present, medium_failed}
use Rattle.scsi_opcodes.specs.declared.commands.Command.{Command}
use Rattle.scsi_opcodes.specs.declared.commands.Command.TheVariants.{TestUnitReady, Rewind, RequestSense, ReadBlockLimits, Read, Write, WriteFilemarks, Space, Inquiry, Erase, Locate, ReadPosition, PersistentReserveIn, PersistentReserveOut, ModeSelect, ModeSense, LoadUnload}
use Rattle.scsi_opcodes.specs.Answers.{block_limits, cut_to, inquiry_data}
use Rattle.volume_core.specs.Medium.{MediumState}
use Rattle.positioning.specs.Laws.{NoSpaceEndsTwice, NoLocateEndsTwice}
use Rattle.pr_core.specs.declared.states.PrState.{PrState}
use Rattle.pr_core.specs.Laws.{NoOrderEndsTwice}
use Rattle.scsi_lists.specs.PrLists.{list_decoded}
use Rattle.drive_commands.specs.declared.bays.Bay.{Bay}
use Rattle.drive_commands.specs.declared.bays.Bay.TheVariants.{Empty, Unloaded, Loaded}
use Rattle.drive_commands.specs.declared.conditions.Condition.{Condition}
use Rattle.drive_commands.specs.State.{Machine, medium_in, mounted, start, with_mounted, bay_of}
use Rattle.drive_commands.specs.Conditions.{condition_due}
use Rattle.drive_commands.specs.Relations.{Made, MediumRelation}
use Rattle.drive_commands.specs.RequestSense.{RequestSenseWork, once_reported, sense_due}
use Rattle.drive_commands.specs.ReserveIn.{data_read}
use Rattle.drive_commands.specs.Giving.{GivesData}
use Rattle.drive_commands.specs.Work.{DriveWork}
use Rattle.drive_commands.specs.LoadUnload.{LoadUnloadWork, LoadsAgain, LoadsIn, unloaded}
use Rattle.drive_commands.specs.Mode.{ModeSelectOf, changed_mode, in_asked_mode, in_mode}
use Rattle.drive_commands.specs.StoredFirst.{GoesTo, StoredFirst}
use Rattle.scsi_lists.specs.declared.mode_lists.ModeList.{ModeList}
use Rattle.scsi_lists.specs.ModeLists.{mode_data, mode_decoded}
use Rattle.drive_commands.specs.OnMedium.{OnMediumIn}
use Rattle.drive_commands.specs.Step.{Answered}
use Rattle.drive_commands.specs.Determined.{IsSureCommand, IsSureDrive, IsSureSight, Sight, sight_of, seen_of, AreAlike}
use Rattle.drive_theorems.proofs.AlikeLemmas.{IsDetermined, goes_to, stored_first}
use Rattle.drive_theorems.proofs.DeterminedParks.{reloads_alike, unloads_alike}
use Rattle.drive_theorems.proofs.DeterminedOrders.{Seen, ends, lists_alike}
use Rattle.drive_theorems.proofs.DeterminedVerdicts.{due_same, reported_same, reported_sure}

module _ (spaces : NoSpaceEndsTwice) (locates : NoLocateEndsTwice) (orders : NoOrderEndsTwice)
    (old beside : Machine) (reply reply' : Reply) (made made' : Made) (new new' : Machine)
    (e : seen_of old ≡ seen_of beside) (S : Type 0) (sure : S → IsSureDrive (seen_of old)) where
  -- both were answered, and came out alike
  abbrev Alike : Type 0
  Alike = AreAlike S (Answered (Ok reply)) (Answered (Ok reply')) made made' new new'

  -- work on a loaded medium that has one answer
  pub on_medium : (W : MediumRelation) → IsDetermined S W → (bay bay' : Bay MediumState)
      → bay_of sight_of bay ≡ bay_of sight_of bay' → (S → IfSome (medium_in (bay_of sight_of bay)) IsSureSight)
      → OnMediumIn bay W old (Ok reply) made new → OnMediumIn bay' W beside (Ok reply') made' new' → Alike
  on_medium W determined (Loaded m) (Loaded m') same surely h k =
      let a =
      determined (mounted m old.position) (mounted m' beside.position) reply reply' made.changes made'.changes h.0 k.0
      (record { sights = cc same; positions = ap (λ (x : Seen). x.position) e; sure = surely }) h.1 k.1 in
      let left : seen_of (with_mounted old h.0) ≡ seen_of (with_mounted beside k.0) =
      λ i. record (e i) { bay = Loaded (a.left.sights i); position = a.left.positions i } in
      record {
        outputs = ap (λ (r : Reply). Answered (Ok r)) a.replies;
        changes = λ i. record { changes = a.changes i; saved = (h.3 ∙ sym k.3) i };
        drives = ap seen_of h.2 ∙ left ∙ sym (ap seen_of k.2);
        sure = λ known. subst IsSureDrive (sym (ap seen_of h.2)) (a.left.sure known);
      }
  on_medium W determined Empty bay' same surely h k = absurd h
  on_medium W determined (Unloaded m) bay' same surely h k = absurd h
  on_medium W determined (Loaded m) Empty same surely h k = absurd k
  on_medium W determined (Loaded m) (Unloaded m') same surely h k = absurd k

  -- data that are given
  gives_data : (bytes : List ℕ) → GivesData bytes old (Ok reply) made new
      → GivesData bytes beside (Ok reply') made' new' → Alike
  gives_data bytes h k = record {
    outputs = ap (λ (r : Reply). Answered (Ok r)) (h.0 ∙ sym k.0);
    changes = h.1 ∙ sym k.1;
    drives = ap seen_of h.2 ∙ e ∙ sym (ap seen_of k.2);
    sure = λ known. subst IsSureDrive (sym (ap seen_of h.2)) (sure known);
  }

  senses : (room nexus : ℕ) → RequestSenseWork room nexus old (Ok reply) made new
      → RequestSenseWork room nexus beside (Ok reply') made' new' → Alike
  senses room nexus h k =
      let due = due_same old beside e nexus in
      let left : seen_of (once_reported (condition_due old nexus) nexus old)
      ≡ seen_of (once_reported (condition_due beside nexus) nexus beside) =
      reported_same old beside e (condition_due old nexus) nexus
      ∙ ap (λ (d : Option Condition). seen_of (once_reported d nexus beside)) due in
      record {
        outputs =
            ap (λ (r : Reply). Answered (Ok r))
            (h.0 ∙ ap (λ (d : Option Condition). good_with (cut_to room (sense_bytes (sense_due d)))) due ∙ sym k.0);
        changes = h.1 ∙ sym k.1;
        drives = ap seen_of h.2 ∙ left ∙ sym (ap seen_of k.2);
        sure = λ known.
            subst IsSureDrive (sym (ap seen_of h.2))
            (reported_sure old beside e (condition_due old nexus) nexus (sure known));
      }

  -- the mode
  mode_same : (was asked : Bool) (nexus : ℕ)
      → seen_of (in_mode was asked nexus old) ≡ seen_of (in_mode was asked nexus beside)
  mode_same true true nexus = e
  mode_same false false nexus = e
  mode_same true false nexus = λ i. changed_mode false nexus (e i)
  mode_same false true nexus = λ i. changed_mode true nexus (e i)

  mode_sure : (was asked : Bool) (nexus : ℕ) → S → IsSureDrive (seen_of (in_mode was asked nexus old))
  mode_sure true true nexus = sure
  mode_sure false false nexus = sure
  mode_sure true false nexus = sure
  mode_sure false true nexus = sure

  asked_same : (asked : Option Bool) (nexus : ℕ)
      → seen_of (in_asked_mode asked nexus old) ≡ seen_of (in_asked_mode asked nexus beside)
  asked_same None nexus = e
  asked_same (Some buffered) nexus =
      mode_same old.buffered buffered nexus
      ∙ ap (λ (b : Bool). seen_of (in_mode b buffered nexus beside)) (ap (λ (x : Seen). x.buffered) e)

  asked_sure : (asked : Option Bool) (nexus : ℕ) → S → IsSureDrive (seen_of (in_asked_mode asked nexus old))
  asked_sure None nexus = sure
  asked_sure (Some buffered) nexus = mode_sure old.buffered buffered nexus

  modes : (list : Result ModeList Sense) (nexus : ℕ) → ModeSelectOf list nexus old (Ok reply) made new
      → ModeSelectOf list nexus beside (Ok reply') made' new' → Alike
  modes (Err sense) nexus h k =
      ends orders old beside reply reply' made made' new new' e S sure (Ok (check_with sense [])) old beside e sure h k
  modes (Ok list) nexus h k =
      ends orders old beside reply reply' made made' new new' e S sure (Ok (good_with []))
      (in_asked_mode list.buffered nexus old) (in_asked_mode list.buffered nexus beside) (asked_same list.buffered
      nexus)
      (asked_sure list.buffered nexus) h k

  -- a loaded medium is loaded again
  loads_again : (failed : Bool) (m m' : MediumState)
      → bay_of sight_of (Loaded m) ≡ bay_of sight_of (Loaded m') → (S → IsSureSight (sight_of m))
      → LoadsAgain failed m old (Ok reply) made new → LoadsAgain failed m' beside (Ok reply') made' new' → Alike
  loads_again true m m' same surely h k =
      ends orders old beside reply reply' made made' new new' e S sure (Ok (check_with medium_failed [])) old beside e
      sure
      h k
  loads_again false m m' same surely h k =
      on_medium (StoredFirst (GoesTo (λ x. start)))
      (stored_first S (GoesTo (λ x. start)) (goes_to S (λ x. start) (λ x x' alike. refl))) (Loaded m) (Loaded m') same
      surely h k

  loads_in : (bay bay' : Bay MediumState) (nexus : ℕ) → bay_of sight_of bay ≡ bay_of sight_of bay'
      → (S → IfSome (medium_in (bay_of sight_of bay)) IsSureSight) → IsSureCommand (LoadUnload true) bay
      → LoadsIn (Unit {0}) bay nexus old (Ok reply) made new
      → LoadsIn (Unit {0}) bay' nexus beside (Ok reply') made' new' → Alike
  loads_in Empty Empty nexus same surely opens h k =
      ends orders old beside reply reply' made made' new new' e S sure (Ok (check_with medium_not_present [])) old
      beside e
      sure h k
  loads_in (Unloaded m) (Unloaded m') nexus same surely opens h k =
      let sights : sight_of m ≡ sight_of m' = cc same in
      reloads_alike S made made' new new' old beside nexus m m' reply reply' e sights opens surely h k
  loads_in (Loaded m) (Loaded m') nexus same surely opens h k =
      let sights : sight_of m ≡ sight_of m' = cc same in
      loads_again m.failed m m' same surely h
      (subst (λ (b : Bool). LoadsAgain b m' beside (Ok reply') made' new') (ap (λ (x : Sight). x.failed) (sym sights))
      k)
  loads_in Empty (Unloaded m') nexus same surely opens h k = cc same
  loads_in Empty (Loaded m') nexus same surely opens h k = cc same
  loads_in (Unloaded m) Empty nexus same surely opens h k = cc same
  loads_in (Unloaded m) (Loaded m') nexus same surely opens h k = cc same
  loads_in (Loaded m) Empty nexus same surely opens h k = cc same
  loads_in (Loaded m) (Unloaded m') nexus same surely opens h k = cc same

  -- what unloads leaves drives that are seen alike
  load_unload : (load : Bool) (nexus : ℕ) → IsSureCommand (LoadUnload load) old.bay → LoadUnloadWork (Unit {0}) load
      nexus old (Ok reply) made new
      → LoadUnloadWork (Unit {0}) load nexus beside (Ok reply') made' new' → Alike
  load_unload true nexus opens h k = loads_in old.bay beside.bay nexus (ap (λ (x : Seen). x.bay) e) sure opens h k
  load_unload false nexus opens h k =
      unloads_alike S made made' new new' unloaded old beside
      (λ m m' same. ((λ i. record (e i) { bay = Unloaded (same i) }), λ surely. surely))
      reply reply' e sure old.bay beside.bay (ap (λ (x : Seen). x.bay) e) sure h k

  pub on_drive : (command : Command) (nexus : ℕ) (sent : List ℕ) → IsSureCommand command old.bay → DriveWork (Unit
      {0}) command nexus sent old (Ok
      reply) made new
      → DriveWork (Unit {0}) command nexus sent beside (Ok reply') made' new' → Alike
  on_drive (RequestSense room) nexus sent opens h k = senses room nexus h k
  on_drive ReadBlockLimits nexus sent opens h k = gives_data block_limits h k
  on_drive (Inquiry room) nexus sent opens h k = gives_data (cut_to room inquiry_data) h k
  on_drive TestUnitReady nexus sent opens h k = absurd h
  on_drive Rewind nexus sent opens h k = absurd h
  on_drive (Read asked suppress) nexus sent opens h k = absurd h
  on_drive (Write asked) nexus sent opens h k = absurd h
  on_drive (WriteFilemarks count immediate) nexus sent opens h k = absurd h
  on_drive (Space code count) nexus sent opens h k = absurd h
  on_drive Erase nexus sent opens h k = absurd h
  on_drive (Locate object part) nexus sent opens h k = absurd h
  on_drive ReadPosition nexus sent opens h k = absurd h
  on_drive (PersistentReserveIn action room) nexus sent opens h k =
      gives_data (cut_to room (data_read action old.reservations)) h
      (subst (λ (s : PrState). GivesData (cut_to room (data_read action s)) beside (Ok reply') made' new')
      (ap (λ (x : Seen). x.reservations) (sym e)) k)
  on_drive (PersistentReserveOut action bytes) nexus sent opens h k =
      lists_alike orders old beside reply reply' made made' new new' e S sure (list_decoded action sent) nexus h k
  on_drive (ModeSelect length) nexus sent opens h k = modes (mode_decoded sent) nexus h k
  on_drive (ModeSense room bare) nexus sent opens h k =
      gives_data (cut_to room (mode_data old.buffered bare)) h
      (subst (λ (b : Bool). GivesData (cut_to room (mode_data b bare)) beside (Ok reply') made' new')
      (ap (λ (x : Seen). x.buffered) (sym e)) k)
  on_drive (LoadUnload load) nexus sent opens h k = load_unload load nexus opens h k
