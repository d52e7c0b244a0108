-- What an event does to the reservations of a drive, and to the store that saves them.
use Rattle.std.proofs.Common.{◌≡◌, ◌⊎◌, inl, inr, List, [], ◌∷◌, Bool, true, false, Option, None, Some, is_some, Result, Ok, Err, refl, sym, ◌∙◌, ap, subst}
use Rattle.std.specs.Prelude.{unwrap_or}
use Rattle.vtl_base.specs.Below.{Below}
use Rattle.scsi_sense.specs.declared.replies.Reply.{Reply}
use Rattle.volume_core.specs.declared.changes.Change.{Change}
use Rattle.volume_core.specs.declared.media.Turn.{Turn}
use Rattle.volume_core.specs.declared.media.Turn.TheVariants as turns
use Rattle.volume_core.specs.Medium.{MediumState}
use Rattle.tape_disk.specs.Disk.{DiskState, IsDisk}
use Rattle.accepted_changes.specs.Device.{one_disk, one_is_device}
use Rattle.accepted_changes.specs.Events.{CoreMoves, core_moves_nowhere}
use Rattle.pr_core.specs.declared.keepers.KeeperError.{KeeperError}
use Rattle.pr_core.specs.declared.keepers.KeeperError.TheVariants as save
use Rattle.pr_core.specs.declared.states.PrState.{PrState}
use Rattle.pr_core.specs.Keepers.{KeeperState, Saves, saved_by}
use Rattle.pr_core.specs.Laws.{OrdersKeepRules, SavedAlikeAreLostAlike, SavesAreDueByChange}
use Rattle.pr_core.specs.Saves.{needs_save}
use Rattle.pr_core.specs.Sound.{IsSound}
use Rattle.pr_core.specs.States.{empty_state, power_loss}
use Rattle.drive_commands.specs.declared.bays.Bay.{Bay}
use Rattle.drive_commands.specs.declared.bays.Bay.TheVariants.{Empty, Unloaded, Loaded}
use Rattle.drive_commands.specs.declared.faults.Fault.{Fault}
use Rattle.drive_commands.specs.Execute.{Answers}
use Rattle.drive_commands.specs.Relations.{Made}
use Rattle.drive_commands.specs.ReserveOut.{StandsBy, StandsOnceSaved}
use Rattle.drive_commands.specs.State.{DriveState, Machine, loaded, machine_of}
use Rattle.drive_commands.specs.LoadUnload.{emptied}
use Rattle.drive_commands.specs.Media.{GoesOutOf, TakesIn, TakesTurn}
use Rattle.drive_commands.specs.Turn.{TurnsIn}
use Rattle.drive_commands.specs.Work.{Request}
use Rattle.aptpl_store.specs.Contents.{latest}
use Rattle.aptpl_store.specs.Kept.{core_of, store_below, store_kept, store_rules}
use Rattle.aptpl_store.specs.State.{OpenStore}
use Rattle.drive_commands.specs.Events.{Event, Execute, FlushTurn, Insert, Load, OfDrive, PowerOn, Unload}
use Rattle.bay_moves.specs.Reservations.{GoesBy, IsHolding, IsOrdered, IsOrderedIn, MayStand}
use Rattle.bay_moves.proofs.MachineLemmas.{Goes, step_goes}
use Rattle.bay_moves.proofs.StoreCoreLemmas.{none_torn}

-- a medium comes into the drive, or goes out
abbrev pub ChangesBay : Event OfDrive → Type 0
ChangesBay (Load medium) = Unit {0}
ChangesBay (Insert medium) = Unit {0}
ChangesBay Unload = Unit {0}
ChangesBay _ = ⊥

module _ {M D : Type 0} (medium : M → MediumState) (below : Below M Change) (disk : D → DiskState) where
  -- equal drives have the same keeper and reservations
  both : (one new : DriveState M (OpenStore D)) → new ≡ one
      → (new.keeper ≡ one.keeper) × (new.reservations ≡ one.reservations)
  both one new same = (
    ap (λ (d : DriveState M (OpenStore D)). d.keeper) same,
    ap (λ (d : DriveState M (OpenStore D)). d.reservations) same,
  )

  -- a cartridge that goes in or out leaves keeper and reservations unchanged
  out_stays : (bay : Bay M) (old : DriveState M (OpenStore D)) (result : Result M Reply)
      (new : DriveState M (OpenStore D)) → GoesOutOf medium below bay old result new
      → (new.keeper ≡ old.keeper) × (new.reservations ≡ old.reservations)
  out_stays Empty old (Ok out) new goes = absurd goes
  out_stays Empty old (Err reply) new goes = both old new goes.1
  out_stays (Unloaded m) old (Ok out) new goes = both (emptied old m) new goes.1
  out_stays (Unloaded m) old (Err reply) new goes = absurd goes
  out_stays (Loaded m) old (Ok out) new goes = both (emptied old m) new goes.1
  out_stays (Loaded m) old (Err reply) new goes = both (record old { bay = Loaded goes.0 }) new goes.3

  in_stays : (old : DriveState M (OpenStore D)) (given : M) (result : Result Unit (M × Reply))
      (new : DriveState M (OpenStore D)) → TakesIn medium below old given result new
      → (new.keeper ≡ old.keeper) × (new.reservations ≡ old.reservations)
  in_stays old given (Ok done) new takes = both (loaded old takes.0) new takes.2
  in_stays old given (Err back) new takes = both old new takes.3

  pub bay_stays : (old new : DriveState M (OpenStore D)) (event : Event OfDrive) → ChangesBay event
      → GoesBy medium below disk old event new → (new.keeper ≡ old.keeper) × (new.reservations ≡ old.reservations)
  bay_stays old new (Load loaded) changes goes = in_stays old goes.0 goes.2 new goes.3
  bay_stays old new (Insert put) changes goes = both (record old { bay = Unloaded goes.0 }) new goes.2
  bay_stays old new Unload changes goes = out_stays old.bay old goes.0 new goes.1
  bay_stays old new (Execute request) changes goes = absurd changes
  bay_stays old new FlushTurn changes goes = absurd changes
  bay_stays old new (PowerOn given keeper) changes goes = absurd changes

module _ {M D : Type 0} (medium : M → MediumState) (below : Below M Change) (disk : D → DiskState)
    (is_disk : (d : D) → (disk d).honest → IsDisk (disk d)) (keep : OrdersKeepRules)
    (due : SavesAreDueByChange) (lost : SavedAlikeAreLostAlike) where
  -- the store after an event, and what it is compared with
  pub record EventGoes
      (old : DriveState M (OpenStore D)) (event : Event OfDrive) (new : DriveState M (OpenStore D)) : Type
      0 where
    pub made : List PrState
    pub moves :
        CoreMoves store_rules (one_disk disk) old.keeper.disk new.keeper.disk (core_of old.keeper)
        (core_of new.keeper) made
    pub more : PrState
    pub stands : (power_loss more ≡ power_loss old.reservations) ⊎ MayStand medium below disk old event new more
    pub fits : (made ≡ []) ⊎ ((made ≡ more ∷ []) × (old.keeper.torn ≡ None))
    pub torn : (old.keeper.torn ≡ None) ⊎ (old.keeper.torn ≡ Some more)
    pub sound : IsSound new.reservations
    pub saved : power_loss (latest new.keeper.states) ≡ power_loss new.reservations
    pub at_rest : new.keeper.failed ≡ is_some new.keeper.torn

  module _ (old new : DriveState M (OpenStore D)) (holding : IsHolding medium below disk old) (event : Event OfDrive)
      (made : List PrState)
      (moves : CoreMoves store_rules (one_disk disk) old.keeper.disk new.keeper.disk
      (core_of old.keeper) (core_of new.keeper) made) where
    -- nothing was saved
    unsaved : made ≡ [] → store_kept new.keeper ≡ store_kept old.keeper → IsSound new.reservations
        → power_loss new.reservations ≡ power_loss old.reservations → EventGoes old event new
    unsaved none stays sound same = by old.keeper.torn refl
      where
        saved : power_loss (latest new.keeper.states) ≡ power_loss new.reservations
        saved =
            ap (λ (k : KeeperState). power_loss (unwrap_or k.saved empty_state)) stays ∙ holding.saved ∙ sym same

        at_rest : new.keeper.failed ≡ is_some new.keeper.torn
        at_rest =
            ap (λ (k : KeeperState). k.failed) stays ∙ holding.at_rest
            ∙ sym (ap (λ (k : KeeperState). is_some k.torn) stays)

        by : (torn : Option PrState) → old.keeper.torn ≡ torn → EventGoes old event new
        by None is = record {
          made = made;
          moves = moves;
          more = latest old.keeper.states;
          stands = inl holding.saved;
          fits = inl none;
          torn = inl is;
          sound = sound;
          saved = saved;
          at_rest = at_rest;
        }
        by (Some state) is = record {
          made = made;
          moves = moves;
          more = state;
          stands = inr (inl is);
          fits = inl none;
          torn = inr is;
          sound = sound;
          saved = saved;
          at_rest = at_rest;
        }

    -- a state was saved, or the disk failed while it was
    asked_to_save : (state : PrState) → IsOrderedIn (machine_of medium store_kept old) event state → IsSound state
        → (saving : Result Unit KeeperError) (keeper : KeeperState) → Saves (store_kept old.keeper) state saving keeper
        → store_kept new.keeper ≡ keeper → made ≡ saved_by saving state
        → new.reservations ≡ (elim saving as (λ x. PrState) [ Ok done ↦ state | Err error ↦ old.reservations ])
        → EventGoes old event new
    asked_to_save state ordered sound (Ok done) keeper saves stays made_is is = record {
      made = made;
      moves = moves;
      more = state;
      stands = inr (inr (ordered, inl is));
      fits = inr (made_is, none);
      torn = inl none;
      sound = subst IsSound (sym is) sound;
      saved =
          ap (λ (k : KeeperState). power_loss (unwrap_or k.saved empty_state)) stays
          ∙ ap (λ (s : Option PrState). power_loss (unwrap_or s empty_state)) saves.1.saved
          ∙ ap power_loss (sym is);
      at_rest =
          ap (λ (k : KeeperState). k.failed) stays ∙ saves.1.works
          ∙ sym (ap (λ (k : KeeperState). is_some k.torn) stays ∙ ap (λ (t : Option PrState). is_some t) saves.1.whole);
    }
      where
        none : old.keeper.torn ≡ None
        none = none_torn old.keeper.torn (sym holding.at_rest ∙ saves.0)
    asked_to_save state ordered sound (Err save.Device) keeper saves stays made_is is = record {
      made = made;
      moves = moves;
      more = state;
      stands = inr (inr (ordered, inr (ap (λ (k : KeeperState). k.torn) stays ∙ saves.1.torn)));
      fits = inr (made_is, none);
      torn = inl none;
      sound = subst IsSound (sym is) holding.sound;
      saved =
          ap (λ (k : KeeperState). power_loss (unwrap_or k.saved empty_state)) stays
          ∙ ap (λ (s : Option PrState). power_loss (unwrap_or s empty_state)) saves.1.saved
          ∙ holding.saved ∙ ap power_loss (sym is);
      at_rest =
          ap (λ (k : KeeperState). k.failed) stays ∙ saves.1.failed
          ∙ sym (ap (λ (k : KeeperState). is_some k.torn) stays ∙ ap (λ (t : Option PrState). is_some t) saves.1.torn);
    }
      where
        none : old.keeper.torn ≡ None
        none = none_torn old.keeper.torn (sym holding.at_rest ∙ saves.0)
    asked_to_save state ordered sound (Err save.NoMemory) keeper saves stays made_is is =
        unsaved made_is (stays ∙ saves.2) (subst IsSound (sym is) holding.sound) (ap power_loss is)
    asked_to_save state ordered sound (Err save.SideFull) keeper saves stays made_is is =
        unsaved made_is (stays ∙ saves.2) (subst IsSound (sym is) holding.sound) (ap power_loss is)
    asked_to_save state ordered sound (Err save.Failed) keeper saves stays made_is is =
        unsaved made_is (stays ∙ saves.1) (subst IsSound (sym is) holding.sound) (ap power_loss is)

  -- the work of an order
  module _ (old new : DriveState M (OpenStore D)) (holding : IsHolding medium below disk old) (request : Request)
      (reply : Reply) (answer : Result Reply Fault) (made : Made)
      (moves : CoreMoves store_rules (one_disk disk) old.keeper.disk new.keeper.disk
      (core_of old.keeper) (core_of new.keeper) made.saved) (state : PrState)
      (ordered : IsOrdered (machine_of medium store_kept old) request state) where
    sound : IsSound state
    sound =
        keep old.reservations request.nexus ordered.order ordered.answer ordered.established state holding.sound
        ordered.ordered

    once_saved : (saving : Result Unit KeeperError) (keeper : KeeperState)
        → Saves (store_kept old.keeper) state saving keeper
        → StandsOnceSaved saving keeper ordered.answer state ordered.established (machine_of medium store_kept old)
        answer
        (machine_of medium store_kept new)
        → made.saved ≡ saved_by saving state → EventGoes old (Execute request) new
    once_saved (Ok done) keeper saves stands made_is =
        asked_to_save old new holding (Execute request) made.saved moves state ordered sound (Ok done)
        keeper
        saves (ap (λ (m : Machine). m.keeper) stands.1) made_is (ap (λ (m : Machine). m.reservations) stands.1)
    once_saved (Err error) keeper saves stands made_is =
        asked_to_save old new holding (Execute request) made.saved moves state ordered sound (Err error)
        keeper saves (ap (λ (m : Machine). m.keeper) stands.1) made_is (ap (λ (m : Machine). m.reservations) stands.1)

    stands_by : (needed : Bool) → needs_save old.reservations state ≡ needed
        → StandsBy needed ordered.answer state ordered.established (machine_of medium store_kept old) answer made
        (machine_of medium store_kept new) → EventGoes old (Execute request) new
    stands_by false needed stands =
        let is : new.reservations ≡ state = ap (λ (m : Machine). m.reservations) stands.2 in
        unsaved old new holding (Execute request) made.saved moves (ap (λ (m : Made). m.saved) stands.1)
        (ap (λ (m : Machine). m.keeper) stands.2) (subst IsSound (sym is) sound)
        (ap power_loss is
        ∙ sym (lost old.reservations state ((due old.reservations state holding.sound sound).0 needed)))
    stands_by true needed stands =
        once_saved stands.0 stands.1 stands.2 stands.3 (ap (λ (m : Made). m.saved) stands.4)

  -- a host is answered
  asked_goes : (old new : DriveState M (OpenStore D)) (request : Request) (reply : Reply)
      → IsHolding medium below disk old → Answers medium below store_kept (store_below disk) old request reply new
      → EventGoes old (Execute request) new
  asked_goes old new request reply holding answers =
      by (step_goes _ (machine_of medium store_kept old) request answers.answer answers.taken.made
      (machine_of medium store_kept new) answers.taken.step)
    where
      by : Goes (machine_of medium store_kept old) request answers.answer answers.taken.made
          (machine_of medium store_kept new) → EventGoes old (Execute request) new
      by (inl none) =
          unsaved old new holding (Execute request) answers.taken.made.saved answers.taken.saves.moved
          none.saved
          none.keeper (subst IsSound (sym none.reservations) holding.sound) (ap power_loss none.reservations)
      by (inr order) =
          stands_by old new holding request reply answers.answer answers.taken.made answers.taken.saves.moved
          order.work.2 (record {
            action = order.action;
            bytes = order.bytes;
            order = order.order;
            answer = order.work.0;
            established = order.work.1;
            command = order.command;
            list = order.list;
            ordered = order.work.3;
          }) (needs_save old.reservations order.work.2) refl order.work.4

  -- a turn leaves the reservations unchanged
  pub turn_leaves : (bay : Bay MediumState) (old : Machine) (turn : Turn) (new : Machine) → TurnsIn bay old turn new
      → new.reservations ≡ old.reservations
  turn_leaves Empty old turn new turned = ap (λ (m : Machine). m.reservations) turned.1
  turn_leaves (Unloaded m) old turn new turned = ap (λ (m : Machine). m.reservations) turned.1
  turn_leaves (Loaded m) old turns.Idle new turned = ap (λ (m : Machine). m.reservations) turned.3
  turn_leaves (Loaded m) old (turns.Stored count) new turned = ap (λ (m : Machine). m.reservations) turned.3
  turn_leaves (Loaded m) old turns.Device new turned = ap (λ (m : Machine). m.reservations) turned.3

  -- a flusher's turn
  turned_goes : (old new : DriveState M (OpenStore D)) (turn : Turn) → IsHolding medium below disk old
      → TakesTurn medium below store_kept old turn new → EventGoes old FlushTurn new
  turned_goes old new turn holding takes =
      let same = turn_leaves _ (machine_of medium store_kept old) takes.step.0 (machine_of medium store_kept new)
      takes.step.1 in
      unsaved old new holding FlushTurn []
      (subst (λ (k : OpenStore D). CoreMoves store_rules (one_disk disk) old.keeper.disk k.disk
      (core_of old.keeper) (core_of k) []) (sym takes.keeper)
      (core_moves_nowhere store_rules (one_disk disk) (one_is_device disk) old.keeper.disk (core_of old.keeper)
      (is_disk old.keeper.disk)))
      refl (ap (λ (k : OpenStore D). store_kept k) takes.keeper) (subst IsSound (sym same) holding.sound)
      (ap power_loss same)

  -- a medium that comes in or goes out
  bay_goes : (old new : DriveState M (OpenStore D)) (event : Event OfDrive) → ChangesBay event
      → IsHolding medium below disk old → GoesBy medium below disk old event new → EventGoes old event new
  bay_goes old new event changes holding goes =
      let stays = bay_stays medium below disk old new event changes goes in
      unsaved old new holding event []
      (subst (λ (k : OpenStore D). CoreMoves store_rules (one_disk disk) old.keeper.disk k.disk
      (core_of old.keeper) (core_of k) []) (sym stays.0)
      (core_moves_nowhere store_rules (one_disk disk) (one_is_device disk) old.keeper.disk (core_of old.keeper)
      (is_disk old.keeper.disk)))
      refl (ap (λ (k : OpenStore D). store_kept k) stays.0) (subst IsSound (sym stays.1) holding.sound)
      (ap power_loss stays.1)

  pub event_goes : (old new : DriveState M (OpenStore D)) (event : Event OfDrive) → IsHolding medium below disk old
      → GoesBy medium below disk old event new → EventGoes old event new
  event_goes old new (Execute request) holding goes = asked_goes old new request goes.0 holding goes.1
  event_goes old new FlushTurn holding goes = turned_goes old new goes.0 holding goes.1
  event_goes old new (Load loaded) holding goes = bay_goes old new (Load loaded) tt holding goes
  event_goes old new (Insert put) holding goes = bay_goes old new (Insert put) tt holding goes
  event_goes old new Unload holding goes = bay_goes old new Unload tt holding goes
  event_goes old new (PowerOn given keeper) holding goes = absurd goes
