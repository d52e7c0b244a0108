-- What an event of a drive leaves at each moment inside it, of its cartridge and of its store.
use Rattle.std.proofs.Common.{◌≡◌, ap, ℕ, List, [], Option, None, Some, Result, Ok, Err, refl, sym, subst, inl, inr}
use Rattle.tape_disk.specs.Disk.{DiskState, Each, IsDisk}
use Rattle.tape_disk.specs.Moments.{LeavesOnly, no_call}
use Rattle.tape_disk.specs.TwoDisks.{TwoDisks}
use Rattle.scsi_sense.specs.declared.replies.Reply.{Reply}
use Rattle.pr_core.specs.declared.states.PrState.{PrState}
use Rattle.volume_core.specs.declared.changes.Change.{Change}
use Rattle.volume_core.specs.declared.media.Turn.{Turn}
use Rattle.volume_core.specs.Medium.{turn_met_fault}
use Rattle.vtl_base.specs.declared.faults.NoMemory.{NoMemory}
use Rattle.cartridge.specs.Contents.{Start}
use Rattle.accepted_changes.specs.Core.{CanAcknowledge, Core}
use Rattle.accepted_changes.specs.Device.{one_disk, one_is_device}
use Rattle.accepted_changes.specs.Events.{core_moves_nowhere}
use Rattle.aptpl_store.specs.Contents.{ShowsStates}
use Rattle.aptpl_store.specs.Kept.{StoreMoves, core_of, store_below, store_kept, store_rules}
use Rattle.aptpl_store.specs.State.{OpenStore}
use Rattle.tape_buffer.specs.Moves.{LeavesAlone, MovesOn, ShowsOn, buffer_below, leaves_alone_nowhere, medium_core, moves_here}
use Rattle.tape_buffer.specs.State.{BufferState, disks_in, state_of}
use Rattle.drive_commands.specs.declared.bays.Bay.{Bay}
use Rattle.drive_commands.specs.declared.bays.Bay.TheVariants.{Empty, Unloaded, Loaded}
use Rattle.drive_commands.specs.Data.{AnswersLent}
use Rattle.drive_commands.specs.Execute.{Answers, OpensAlone, is_device_fault}
use Rattle.drive_commands.specs.Media.{GoesOutOf, SwitchesOn, TakesIn, TakesTurn}
use Rattle.drive_commands.specs.Relations.{Made, made_nothing}
use Rattle.drive_commands.specs.State.{medium_in}
use Rattle.drive_commands.specs.Work.{Request}
use Rattle.bay_moves.specs.Bays.{AnswersInEvent, AnswersLentInEvent, EventIn, EventOn, EveryMoment, EveryMomentOff, EveryMomentOn, IsSafeIn, KeepsBoth, KeepsCartridge, KeepsCartridgeIn, SavesIn, StaysAlone, UnloadedStays, loaded_or_back, out_or_in}
use Rattle.bay_moves.specs.Elements.{BayState}
use Rattle.drive_commands.specs.Events.{Event, Execute, FlushTurn, Insert, Load, OfDrive, Unload}
use Rattle.bay_moves.specs.Reservations.{GivesHeld, GoesBy, HoldingGives, HoldingGoesOn, IsHolding, disk_of}
use Rattle.bay_moves.proofs.EventLemmas.{ChangesBay, bay_stays}
use Rattle.bay_moves.proofs.CartridgeLemmas.{Moved, moved_by, moved_nowhere}
use Rattle.bay_moves.proofs.HandLemmas.{opened_in}
use Rattle.bay_moves.proofs.StoreCoreLemmas.{to_core}

module _ {D : Type 0} (state : D → DiskState) (is_disk : (disk : D) → (state disk).honest → IsDisk (state disk)) where
  event_on : (x y : Option (TwoDisks D)) (a b : Core Start Change) (made : List Change) → ShowsOn state x a
      → MovesOn state x y a b made → EventOn state x y a b made
  event_on (Some x) (Some y) a b made shows moves = λ honest. moves.goes honest (shows honest)
  event_on None None a b made shows moves = moves
  event_on None (Some y) a b made shows moves = moves
  event_on (Some x) None a b made shows moves = moves

  -- the relation of the medium says what a crash at each moment leaves
  pub event_in : (old new : Option (BufferState D)) (made : List Change) → KeepsCartridgeIn state old
      → Moved state is_disk old new made → EventIn state old new made
  event_in (Some old) (Some new) made keeps moved =
      λ sure volume is. event_on (disks_in old.held) (disks_in new.held) (medium_core state old)
      (medium_core state new)
      made (keeps.shows sure volume is) (moves_here state old new made keeps.hand moved).0
  event_in None None made keeps moved = moved
  event_in None (Some new) made keeps moved = moved
  event_in (Some old) None made keeps moved = moved

  -- the relation of the store does the same
  saves_in : (old : BayState D) (new : OpenStore D) (saved : List PrState)
      → IsHolding (state_of state) (buffer_below state) state old → StoreMoves state old.keeper saved new
      → SavesIn state old.keeper new saved
  saves_in old new saved holding moves = λ honest.
      (moves.goes honest
      (λ image left. to_core old.keeper.heading old.keeper.states old.keeper.torn image
      (holding.shows honest image left))).0

  -- a store that is not called
  saves_nothing : (old new : OpenStore D) → new ≡ old → StoreMoves state old [] new
  saves_nothing old new same =
      subst (λ (k : OpenStore D). StoreMoves state old [] k) (sym same)
      (core_moves_nowhere store_rules (one_disk state) (one_is_device state) old.disk (core_of old) (is_disk old.disk))

  -- the medium after a loading
  pub taken_moved : (old : BayState D) (given : BufferState D) (result : Result Unit (BufferState D × Reply))
      (new : BayState D) → TakesIn (state_of state) (buffer_below state) old given result new
      → Moved state is_disk (Some given) (loaded_or_back state result new) []
  taken_moved old given (Ok done) new takes =
      subst (λ (d : BayState D). Moved state is_disk (Some given) (medium_in d.bay) []) (sym takes.2)
      takes.1.advances.moved
  taken_moved old given (Err back) new takes = takes.1.advances.moved

  -- a cartridge that is not touched, or is opened, stays alone
  stays_nowhere : (found : Option (BufferState D)) → StaysAlone state found found
  stays_nowhere None = tt
  stays_nowhere (Some medium) = leaves_alone_nowhere state medium

  stays_unloaded : (bay : Bay (BufferState D)) (before after : Option (BufferState D)) → StaysAlone state before after
      → UnloadedStays state bay before after
  stays_unloaded Empty before after stays = stays
  stays_unloaded (Unloaded m) before after stays = stays
  stays_unloaded (Loaded m) before after stays = tt

  opens_stays : (bay : Bay (BufferState D)) (after : Option (BufferState D))
      → OpensAlone (buffer_below state) bay after → UnloadedStays state bay (medium_in bay) after
  opens_stays Empty after opens = tt
  opens_stays (Loaded m) after opens = tt
  opens_stays (Unloaded m) None opens = tt
  opens_stays (Unloaded m) (Some new) (inl same) =
      subst (λ (n : BufferState D). LeavesAlone state m n) (sym same) (leaves_alone_nowhere state m)
  opens_stays (Unloaded m) (Some new) (inr alone) = alone

  taken_alone : (old : BayState D) (given : BufferState D) (result : Result Unit (BufferState D × Reply))
      (new : BayState D) → TakesIn (state_of state) (buffer_below state) old given result new
      → StaysAlone state (Some given) (loaded_or_back state result new)
  taken_alone old given (Ok done) new takes =
      subst (λ (d : BayState D). StaysAlone state (Some given) (medium_in d.bay)) (sym takes.2) takes.1.alone
  taken_alone old given (Err back) new takes = takes.1.alone

  out_alone : (bay : Bay (BufferState D)) (old : BayState D) (result : Result (BufferState D) Reply)
      (new : BayState D) → GoesOutOf (state_of state) (buffer_below state) bay old result new
      → UnloadedStays state bay (medium_in bay) (out_or_in state result new)
  out_alone Empty old result new goes = tt
  out_alone (Unloaded m) old (Ok out) new goes =
      subst (λ (x : BufferState D). LeavesAlone state m x) (sym goes.0) (leaves_alone_nowhere state m)
  out_alone (Unloaded m) old (Err reply) new goes = absurd goes
  out_alone (Loaded m) old result new goes = tt

  -- the medium after an unloading
  pub out_moved : (bay : Bay (BufferState D)) (old : BayState D) (result : Result (BufferState D) Reply)
      (new : BayState D) → old.bay ≡ bay → GoesOutOf (state_of state) (buffer_below state) bay old result new
      → Moved state is_disk (medium_in bay) (out_or_in state result new) []
  out_moved Empty old (Ok out) new is goes = absurd goes
  out_moved Empty old (Err reply) new is goes =
      subst (λ (d : BayState D). Moved state is_disk None (medium_in d.bay) []) (sym goes.1)
      (subst (λ (b : Bay (BufferState D)). Moved state is_disk None (medium_in b) []) (sym is) refl)
  out_moved (Unloaded m) old (Ok out) new is goes =
      subst (λ (x : BufferState D). Moved state is_disk (Some m) (Some x) []) (sym goes.0)
      (moved_nowhere state is_disk (Some m))
  out_moved (Unloaded m) old (Err reply) new is goes = absurd goes
  out_moved (Loaded m) old (Ok out) new is goes = goes.0.1.moved
  out_moved (Loaded m) old (Err reply) new is goes =
      subst (λ (d : BayState D). Moved state is_disk (Some m) (medium_in d.bay) []) (sym goes.3) goes.1.2.moved

  pub on_moved : (given : Option (BufferState D)) (reservations : PrState) (store : OpenStore D) (new : BayState D)
      → SwitchesOn (state_of state) (buffer_below state) given reservations store (Ok new)
      → Moved state is_disk given (medium_in new.bay) []
  on_moved None reservations store new on =
      subst (λ (d : BayState D). Moved state is_disk None (medium_in d.bay) []) (sym on) refl
  on_moved (Some given) reservations store new on =
      subst (λ (d : BayState D). Moved state is_disk (Some given) (medium_in d.bay) []) (sym on.5)
      (subst (λ (m : Option (BufferState D)). Moved state is_disk (Some given) m [])
      (sym (opened_in on.0 on.1 on.2 on.4)) on.3.advances.moved)

  on_alone : (given : Option (BufferState D)) (reservations : PrState) (store : OpenStore D) (new : BayState D)
      → SwitchesOn (state_of state) (buffer_below state) given reservations store (Ok new)
      → StaysAlone state given (medium_in new.bay)
  on_alone None reservations store new on = tt
  on_alone (Some given) reservations store new on =
      subst (λ (d : BayState D). StaysAlone state (Some given) (medium_in d.bay)) (sym on.5)
      (subst (λ (m : Option (BufferState D)). StaysAlone state (Some given) m)
      (sym (opened_in on.0 on.1 on.2 on.4)) on.3.alone)

  off_alone : (given : Option (BufferState D)) (reservations : PrState) (store : OpenStore D)
      (back : Option (BufferState D)) (left : OpenStore D) (reason : NoMemory)
      → SwitchesOn (state_of state) (buffer_below state) given reservations store (Err (back, left, reason))
      → StaysAlone state given back
  off_alone None reservations store back left reason off = tt
  off_alone (Some given) reservations store back left reason off =
      subst (λ (m : Option (BufferState D)). StaysAlone state (Some given) m) (sym off.2) off.1.alone

  on_keeper : (given : Option (BufferState D)) (reservations : PrState) (store : OpenStore D) (new : BayState D)
      → SwitchesOn (state_of state) (buffer_below state) given reservations store (Ok new) → new.keeper ≡ store
  on_keeper None reservations store new on = ap (λ (d : BayState D). d.keeper) on
  on_keeper (Some given) reservations store new on = ap (λ (d : BayState D). d.keeper) on.5

  -- every moment of a power on that had memory
  pub on_moments : (given : Option (BufferState D)) (reservations : PrState) (store : OpenStore D) (new : BayState D)
      → HoldingGives (state_of state) (buffer_below state) state → KeepsCartridgeIn state given
      → IsHolding (state_of state) (buffer_below state) state new
      → SwitchesOn (state_of state) (buffer_below state) given reservations store (Ok new)
      → EveryMomentOn state given store new
  on_moments given reservations store new gives known holding on =
      let same = on_keeper given reservations store new on in
      record {
        cartridge = event_in given (medium_in new.bay) [] known (on_moved given reservations store new on);
        alone = on_alone given reservations store new on;
        reservations = λ honest.
            let still = subst (λ (k : OpenStore D). (state k.disk).honest) (sym same) honest in
            subst
            (λ (k : OpenStore D).
            LeavesOnly (state k.disk) (disk_of (state_of state) (buffer_below state) state new)
            (GivesHeld (state_of state) (buffer_below state) state new))
            same
            (no_call (disk_of (state_of state) (buffer_below state) state new)
            (GivesHeld (state_of state) (buffer_below state) state new) (is_disk new.keeper.disk still)
            (gives new holding still));
      }

  pub off_moved : (given : Option (BufferState D)) (reservations : PrState) (store : OpenStore D)
      (back : Option (BufferState D)) (left : OpenStore D) (reason : NoMemory)
      → SwitchesOn (state_of state) (buffer_below state) given reservations store (Err (back, left, reason))
      → Moved state is_disk given back [] × (left ≡ store)
  off_moved None reservations store back left reason off = absurd off
  off_moved (Some given) reservations store back left reason off = (
    subst (λ (m : Option (BufferState D)). Moved state is_disk (Some given) m []) (sym off.2) off.1.advances.moved,
    off.3,
  )

  -- the same where memory ran out
  pub off_moments : (given : Option (BufferState D)) (reservations : PrState) (store : OpenStore D)
      (back : Option (BufferState D)) (left : OpenStore D) (reason : NoMemory) → KeepsCartridgeIn state given
      → ((state store.disk).honest → Each (state store.disk) (ShowsStates store.heading store.states store.torn))
      → SwitchesOn (state_of state) (buffer_below state) given reservations store (Err (back, left, reason))
      → EveryMomentOff state given store back left
  off_moments given reservations store back left reason known shows off =
      let went = off_moved given reservations store back left reason off in
      record {
        cartridge = event_in given back [] known went.0;
        alone = off_alone given reservations store back left reason off;
        reservations = λ honest.
            subst
            (λ (k : OpenStore D).
            LeavesOnly (state store.disk) (state k.disk) (ShowsStates store.heading store.states store.torn))
            (sym went.1)
            (no_call (state store.disk) (ShowsStates store.heading store.states store.torn) (is_disk store.disk honest)
            (shows honest));
      }

  -- all that was accepted is safe, where it is so for each medium that may be there
  pub safe_where : (found : Option (BufferState D))
      → ((medium : BufferState D) → found ≡ Some medium → CanAcknowledge (medium_core state medium))
      → IsSafeIn state found
  safe_where None each = tt
  safe_where (Some medium) each = each medium refl

  module _ (goes_on : HoldingGoesOn (state_of state) (buffer_below state) state) where
    -- the invariant of both holds after an event
    pub event_keeps : (old new : BayState D) (event : Event OfDrive) → KeepsBoth state old
        → GoesBy (state_of state) (buffer_below state) state old event new → KeepsCartridgeIn state (medium_in new.bay)
        → KeepsBoth state new
    event_keeps old new event keeps does known =
        record { cartridge = known; reservations = (goes_on old new event keeps.reservations does).0 }

    -- at each moment inside the event a crash leaves what this says
    every_moment : (old new : BayState D) (event : Event OfDrive) (made : Made) (before after : Option (BufferState D))
        → KeepsBoth state old → GoesBy (state_of state) (buffer_below state) state old event new
        → KeepsCartridgeIn state before → Moved state is_disk before after made.changes
        → UnloadedStays state old.bay before after
        → StoreMoves state old.keeper made.saved new.keeper → EveryMoment state old event made before after new
    every_moment old new event made before after keeps does known moved alone saves =
        record {
          cartridge = event_in before after made.changes known moved;
          alone = alone;
          saves = saves_in old new.keeper made.saved keeps.reservations saves;
          reservations = λ honest. ((goes_on old new event keeps.reservations does).1 honest).1;
        }

    asked_moments : (old new : BayState D) (request : Request) (reply : Reply) → KeepsBoth state old
        → (answers : Answers (state_of state) (buffer_below state) store_kept (store_below state) old request reply new)
        → EveryMoment state old (Execute request) answers.taken.made (medium_in old.bay)
        (medium_in new.bay) new
    asked_moments old new request reply keeps answers =
        every_moment old new (Execute request) answers.taken.made (medium_in old.bay)
        (medium_in new.bay) keeps
        (reply, answers) keeps.cartridge
        (moved_by state is_disk (medium_in old.bay) (medium_in new.bay) answers.taken.made.changes
        (is_device_fault answers.answer) answers.taken.advances)
        (opens_stays old.bay (medium_in new.bay) answers.taken.alone)
        answers.taken.saves.moved

    pub answers_in_event : (old new : BayState D) (request : Request) (reply : Reply) → KeepsBoth state old
        → Answers (state_of state) (buffer_below state) store_kept (store_below state) old request reply new
        → AnswersInEvent state old request reply new
    answers_in_event old new request reply keeps answers =
        record { step = answers; moments = asked_moments old new request reply keeps answers }

    pub answers_lent_in_event : (old new : BayState D) (request : Request) (reply : Reply) (left : List ℕ)
        → KeepsBoth state old
        → AnswersLent (state_of state) (buffer_below state) store_kept (store_below state) old request reply new left
        → AnswersLentInEvent state old request reply new left
    answers_lent_in_event old new request reply left keeps answers =
        record { step = answers; moments = asked_moments old new request reply keeps answers.step }

    pub turn_moments : (old new : BayState D) (turn : Turn) → KeepsBoth state old
        → TakesTurn (state_of state) (buffer_below state) store_kept old turn new
        → EveryMoment state old FlushTurn made_nothing (medium_in old.bay) (medium_in new.bay) new
    turn_moments old new turn keeps takes =
        every_moment old new FlushTurn made_nothing (medium_in old.bay) (medium_in new.bay) keeps (turn, takes)
        keeps.cartridge
        (moved_by state is_disk (medium_in old.bay) (medium_in new.bay) [] (turn_met_fault turn) takes.advances)
        (opens_stays old.bay (medium_in new.bay) takes.alone)
        (saves_nothing old.keeper new.keeper takes.keeper)

    -- of a cartridge that is loaded or unloaded
    bay_moments : (old new : BayState D) (event : Event OfDrive) (before after : Option (BufferState D))
        → ChangesBay event → KeepsBoth state old
        → GoesBy (state_of state) (buffer_below state) state old event new → KeepsCartridgeIn state before
        → Moved state is_disk before after [] → UnloadedStays state old.bay before after
        → EveryMoment state old event made_nothing before after new
    bay_moments old new event before after changes keeps goes known moved alone =
        every_moment old new event made_nothing before after keeps goes known moved alone
        (saves_nothing old.keeper new.keeper
        (bay_stays (state_of state) (buffer_below state) state old new event changes goes).0)

    pub load_moments : (old new : BayState D) (given : BufferState D) (result : Result Unit (BufferState D × Reply))
        → KeepsBoth state old → KeepsCartridge state given
        → TakesIn (state_of state) (buffer_below state) old given result new
        → EveryMoment state old (Load (state_of state given)) made_nothing (Some given)
        (loaded_or_back state result new) new
    load_moments old new given result keeps known takes =
        bay_moments old new (Load (state_of state given)) (Some given) (loaded_or_back state result new) tt keeps
        (given, refl, result, takes) known (taken_moved old given result new takes)
        (stays_unloaded old.bay (Some given) (loaded_or_back state result new) (taken_alone old given result new takes))

    pub insert_moments : (old new : BayState D) (given : BufferState D) → KeepsBoth state old
        → KeepsCartridge state given → new ≡ record old { bay = Unloaded given }
        → EveryMoment state old (Insert (state_of state given)) made_nothing (Some given) (medium_in new.bay) new
    insert_moments old new given keeps known is =
        bay_moments old new (Insert (state_of state given)) (Some given) (medium_in new.bay) tt keeps
        (given, refl, is) known
        (subst (λ (d : BayState D). Moved state is_disk (Some given) (medium_in d.bay) []) (sym is)
        (moved_nowhere state is_disk (Some given)))
        (stays_unloaded old.bay (Some given) (medium_in new.bay)
        (subst (λ (d : BayState D). StaysAlone state (Some given) (medium_in d.bay)) (sym is)
        (stays_nowhere (Some given))))

    pub out_moments : (old new : BayState D) (result : Result (BufferState D) Reply) → KeepsBoth state old
        → GoesOutOf (state_of state) (buffer_below state) old.bay old result new
        → EveryMoment state old Unload made_nothing (medium_in old.bay) (out_or_in state result new) new
    out_moments old new result keeps goes =
        bay_moments old new Unload (medium_in old.bay) (out_or_in state result new) tt keeps (result, goes)
        keeps.cartridge (out_moved old.bay old result new refl goes) (out_alone old.bay old result new goes)
