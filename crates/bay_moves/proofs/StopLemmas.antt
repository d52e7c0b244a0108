-- What a drive over a store leaves on the store's disk at each moment of its events.
use Rattle.std.proofs.Common.{◌≡◌, ◌⊎◌, inl, inr, ℕ, List, [], ◌∷◌, ◌++◌, Option, None, Some, is_some, refl, sym, ◌∙◌, ap, subst}
use Rattle.std.specs.Prelude.{option_to_list}
use Rattle.std.proofs.lemmas.List.{append-nil}
use Rattle.vtl_base.specs.Below.{Below}
use Rattle.scsi_sense.specs.declared.replies.Reply.{Reply}
use Rattle.volume_core.specs.declared.changes.Change.{Change}
use Rattle.volume_core.specs.Medium.{MediumState}
use Rattle.tape_disk.specs.Disk.{DiskState, Each, IsDisk}
use Rattle.tape_disk.specs.Moments.{LeavesOnly, weakened}
use Rattle.pr_core.specs.declared.states.PrState.{PrState}
use Rattle.pr_core.specs.Laws.{OrdersKeepRules, PowerLossIsOnce, SavedAlikeAreLostAlike, SavesAreDueByChange}
use Rattle.pr_core.specs.Sound.{IsSound}
use Rattle.pr_core.specs.States.{empty_state, power_loss}
use Rattle.drive_commands.specs.declared.bays.Bay.{Bay}
use Rattle.drive_commands.specs.declared.bays.Bay.TheVariants.{Empty}
use Rattle.drive_commands.specs.State.{DriveState, left_of, machine_of, powered_on}
use Rattle.aptpl_store.specs.Contents.{GivesStates, ShowsStates, latest}
use Rattle.accepted_changes.specs.Device.{one_disk}
use Rattle.accepted_changes.specs.Events.{IsEvent, ShowsCore}
use Rattle.aptpl_store.specs.Kept.{core_of, core_with, store_kept, store_rules}
use Rattle.aptpl_store.specs.State.{OpenStore}
use Rattle.drive_commands.specs.Events.{Event, Execute, FlushTurn, Insert, Load, OfDrive, PowerOn, Unload}
use Rattle.bay_moves.specs.Reservations.{GivesHeld, GoesBy, GoesByAll, HoldingGives, HoldingGoesOn, IsHolding, IsOrderedIn, LeavesHeld, MayStand, OrdersStand, ReservationsOutlive, SwitchedOnHolds, disk_of}
use Rattle.bay_moves.proofs.MachineLemmas.{step_goes}
use Rattle.bay_moves.proofs.StandLemmas.{good_stands, step_stands}
use Rattle.bay_moves.proofs.EventLemmas.{EventGoes, bay_stays, event_goes, turn_leaves}
use Rattle.bay_moves.proofs.StoreCoreLemmas.{GivesEither, core_within, event_leaves, from_core, given_as, last_more, to_core}

module _ {M D : Type 0} (medium : M → MediumState) (below : Below M Change) (disk : D → DiskState)
    (is_disk : (d : D) → (disk d).honest → IsDisk (disk d)) (keep : OrdersKeepRules)
    (due : SavesAreDueByChange) (lost : SavedAlikeAreLostAlike) where
  -- what one event leaves at each moment, and in the end
  one_leaves : (old new : DriveState M (OpenStore D)) (event : Event OfDrive)
      → IsHolding medium below disk old → GoesBy medium below disk old event new
      → IsHolding medium below disk new
      × ((disk_of medium below disk old).honest
      → (disk_of medium below disk new).honest
      × LeavesOnly (disk_of medium below disk old) (disk_of medium below disk new)
      (LeavesHeld medium below disk old event new))
  one_leaves old new event holding does = (
    record {
      sound = goes.sound;
      saved = goes.saved;
      at_rest = goes.at_rest;
      shows = λ honest image left.
          from_core new.keeper.heading new.keeper.states new.keeper.torn image
          ((went (goes.moves.keeps.was_honest honest)).1 image left);
    },
    λ honest. (
      goes.moves.keeps.stays_honest honest,
      weakened (disk_of medium below disk old) (disk_of medium below disk new)
          (GivesEither old.keeper.heading old.keeper.states goes.more) (LeavesHeld medium below disk old event new)
          (event_leaves disk old.keeper.disk new.keeper.disk old.keeper.heading old.keeper.states goes.more
          (core_of old.keeper) (core_of new.keeper) goes.made
          (core_within old.keeper.heading old.keeper.states old.keeper.torn goes.more goes.torn)
          (accepts old goes.more goes.made goes.fits) (went honest).0)
          (opens old event new goes.more holding goes.stands),
    ),
  )
    where
      goes : EventGoes medium below disk is_disk keep due lost old event new
      goes = event_goes medium below disk is_disk keep due lost old new event holding does

      went : (disk_of medium below disk old).honest
          → IsEvent store_rules (one_disk disk) old.keeper.disk new.keeper.disk (core_of old.keeper)
          (core_of new.keeper) goes.made
          × Each (disk_of medium below disk new) (ShowsCore store_rules (core_of new.keeper))
      went honest =
          goes.moves.goes honest
          (λ image left. to_core old.keeper.heading old.keeper.states old.keeper.torn image
          (holding.shows honest image left))

      accepts : (drive : DriveState M (OpenStore D)) (more : PrState) (made : List PrState)
          → (made ≡ []) ⊎ ((made ≡ more ∷ []) × (drive.keeper.torn ≡ None))
          → (made ≡ []) ⊎ ((made ≡ more ∷ []) × ((core_of drive.keeper).accepted ≡ drive.keeper.states))
      accepts drive more made (inl none) = inl none
      accepts drive more made (inr one) =
          inr (
            one.0,
            ap (λ (t : Option PrState). (core_with drive.keeper.heading drive.keeper.states t).accepted) one.1,
          )

      opens : (drive : DriveState M (OpenStore D)) (event : Event OfDrive) (later : DriveState M (OpenStore D))
          (more : PrState)
          → IsHolding medium below disk drive
          → (power_loss more ≡ power_loss drive.reservations) ⊎ MayStand medium below disk drive event later more
          → (image : List ℕ) → GivesEither drive.keeper.heading drive.keeper.states more image
          → LeavesHeld medium below disk drive event later image
      opens drive event later more holds stands image (inl gives) = inl (drive.keeper.states, gives, sym holds.saved)
      opens drive event later more holds (inl same) image (inr gives) =
          inl (
            drive.keeper.states ++ more ∷ [],
            gives,
            sym same ∙ ap power_loss (sym (last_more empty_state drive.keeper.states more)),
          )
      opens drive event later more holds (inr may) image (inr gives) =
          inr (
            more,
            may,
            (
              drive.keeper.states ++ more ∷ [],
              gives,
              ap power_loss (sym (last_more empty_state drive.keeper.states more)),
            ),
          )

  -- after events IsHolding holds, over a disk that is still honest
  events_leave : (old mid : DriveState M (OpenStore D)) (events : List (Event OfDrive))
      → IsHolding medium below disk old → GoesByAll medium below disk old events mid
      → IsHolding medium below disk mid
      × ((disk_of medium below disk old).honest → (disk_of medium below disk mid).honest)
  events_leave old mid [] holding did = (
    subst (λ (d : DriveState M (OpenStore D)). IsHolding medium below disk d) (sym did) holding,
    λ honest. subst (λ (d : DriveState M (OpenStore D)). (disk_of medium below disk d).honest) (sym did) honest,
  )
  events_leave old mid (event ∷ events) holding did =
      let next = one_leaves old did.0 event holding did.1 in
      let rest = events_leave did.0 mid events next.0 did.2 in
      (rest.0, λ honest. rest.1 (next.1 honest).0)

  -- between two events an image gives what is held, or the state whose save failed
  gives_held : (drive : DriveState M (OpenStore D)) → IsHolding medium below disk drive → (image : List ℕ)
      → ShowsStates drive.keeper.heading drive.keeper.states drive.keeper.torn image
      → GivesHeld medium below disk drive image
  gives_held drive holding image (inl gives) = inl (drive.keeper.states, gives, sym holding.saved)
  gives_held drive holding image (inr gives) = by drive.keeper.torn refl gives
    where
      by : (torn : Option PrState) → drive.keeper.torn ≡ torn
          → GivesStates drive.keeper.heading (drive.keeper.states ++ option_to_list torn) image
          → GivesHeld medium below disk drive image
      by None is gives =
          inl (
            drive.keeper.states,
            given_as drive.keeper.heading (drive.keeper.states ++ []) drive.keeper.states image
                (append-nil drive.keeper.states) gives,
            sym holding.saved,
          )
      by (Some more) is gives =
          inr (
            more,
            is,
            (
              drive.keeper.states ++ more ∷ [],
              gives,
              ap power_loss (sym (last_more empty_state drive.keeper.states more)),
            ),
          )

  pub held_gives : HoldingGives medium below disk
  held_gives drive holding honest = λ image may. gives_held drive holding image (holding.shows honest image may)

  pub goes_on : HoldingGoesOn medium below disk
  goes_on old new event holding does =
      let left = one_leaves old new event holding does in (
        left.0,
        λ honest. (
          (left.1 honest).0,
          (left.1 honest).1,
          held_gives new left.0 (left.1 honest).0,
        ),
      )

  pub outlive : ReservationsOutlive medium below disk
  outlive old mid new events last honest holding did does =
      let there = events_leave old mid events holding did in
      let left = goes_on mid new last there.0 does in
      let found = left.1 (there.1 honest) in
      (found.1, found.2, found.0, left.0)

  -- the reservations after an event
  stays_or_ordered : (old new : DriveState M (OpenStore D)) (event : Event OfDrive)
      → GoesBy medium below disk old event new
      → (new.reservations ≡ old.reservations)
      ⊎ IsOrderedIn (machine_of medium store_kept old) event new.reservations
  stays_or_ordered old new (Execute request) (reply, answers) =
      step_stands (machine_of medium store_kept old) request answers.answer answers.taken.made
      (machine_of medium store_kept new) (step_goes _ (machine_of medium store_kept old) request answers.answer
      answers.taken.made (machine_of medium store_kept new) answers.taken.step)
  stays_or_ordered old new FlushTurn (turn, takes) =
      inl (turn_leaves medium below disk is_disk keep due lost _ (machine_of medium store_kept old) takes.step.0
      (machine_of medium store_kept new) takes.step.1)
  stays_or_ordered old new (Load loaded) goes = inl (bay_stays medium below disk old new (Load loaded) tt goes).1
  stays_or_ordered old new (Insert put) goes = inl (bay_stays medium below disk old new (Insert put) tt goes).1
  stays_or_ordered old new Unload goes = inl (bay_stays medium below disk old new Unload tt goes).1
  stays_or_ordered old new (PowerOn given keeper) goes = absurd goes

  pub stand : OrdersStand medium below disk
  stand = (
    stays_or_ordered,
    λ old new request reply answers action bytes command good. good_stands (machine_of medium store_kept old) request
        answers.answer answers.taken.made (machine_of medium store_kept new) action bytes command _ answers.taken.step
        (sym (ap (λ (r : Reply). r.status) answers.replied) ∙ good),
  )

-- a drive that was just switched on holds what its store saved last
module _ {M D : Type 0} (medium : M → MediumState) (below : Below M Change) (disk : D → DiskState)
    (once : PowerLossIsOnce) where
  switched : (store : OpenStore D) (reservations : PrState) (bay : Bay M) (new : DriveState M (OpenStore D))
      → reservations ≡ left_of (store_kept store).saved → IsSound reservations → store.failed ≡ is_some store.torn
      → ((disk store.disk).honest → Each (disk store.disk) (ShowsStates store.heading store.states store.torn))
      → new ≡ powered_on bay reservations store → IsHolding medium below disk new
  switched store reservations bay new left sound at_rest shows is =
      subst (λ (d : DriveState M (OpenStore D)). IsHolding medium below disk d) (sym is) (record {
        sound = sound;
        saved = sym (ap power_loss left ∙ once (latest store.states));
        at_rest = at_rest;
        shows = shows;
      })

  pub begins : SwitchedOnHolds medium below disk
  begins None store reservations new left sound at_rest shows on =
      switched store reservations Empty new left sound at_rest shows on
  begins (Some given) store reservations new left sound at_rest shows on =
      switched store reservations on.2 new left sound at_rest shows on.5
