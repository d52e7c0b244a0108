-- What a drive over a store of reservations leaves on the store's disk, at whatever moment it is stopped.
use Rattle.std.specs.Prelude.{◌≡◌, ◌⊎◌, ℕ, List, [], ◌∷◌, Option, Some, is_some, Result, Ok}
use Rattle.vtl_base.specs.Below.{Below}
use Rattle.scsi_sense.specs.declared.replies.Reply.{Reply}
use Rattle.scsi_sense.specs.declared.replies.Status.TheVariants.{Good}
use Rattle.scsi_attention.specs.AttentionSets.{AttentionSet}
use Rattle.scsi_lists.specs.declared.actions.PrAction.{PrAction}
use Rattle.scsi_lists.specs.declared.pr_lists.PrOut.{PrOut}
use Rattle.scsi_lists.specs.PrLists.{list_decoded}
use Rattle.scsi_opcodes.specs.declared.commands.Command.TheVariants.{PersistentReserveOut}
use Rattle.pr_core.specs.declared.states.PrState.{PrState}
use Rattle.pr_core.specs.declared.states.PrAnswer.{PrAnswer}
use Rattle.pr_core.specs.Orders.{Orders}
use Rattle.pr_core.specs.Sound.{IsSound}
use Rattle.pr_core.specs.States.{power_loss}
use Rattle.volume_core.specs.declared.changes.Change.{Change}
use Rattle.volume_core.specs.declared.media.Turn.{Turn}
use Rattle.volume_core.specs.Medium.{MediumState}
use Rattle.tape_disk.specs.Disk.{DiskState, Each}
use Rattle.tape_disk.specs.Moments.{LeavesOnly}
use Rattle.drive_commands.specs.Checks.{verdict}
use Rattle.drive_commands.specs.Execute.{Answers}
use Rattle.drive_commands.specs.declared.bays.Bay.TheVariants.{Unloaded}
use Rattle.drive_commands.specs.Media.{GoesOut, SwitchesOn, TakesIn, TakesTurn}
use Rattle.drive_commands.specs.State.{DriveState, Machine, left_of, machine_of}
use Rattle.drive_commands.specs.Events.{Event, Execute, FlushTurn, Insert, Load, OfDrive, PowerOn, Unload}
use Rattle.drive_commands.specs.Work.{Request}
use Rattle.aptpl_store.specs.Contents.{OpensAs, ShowsStates, latest}
use Rattle.aptpl_store.specs.Kept.{store_below, store_kept}
use Rattle.aptpl_store.specs.State.{OpenStore}

-- the state after the order of a request, which has passed all checks (SPC-4, PERSISTENT RESERVE OUT)
pub record IsOrdered (machine : Machine) (request : Request) (state : PrState) : Type 0 where
  pub action : PrAction
  pub bytes : ℕ
  pub order : PrOut
  pub answer : PrAnswer
  pub established : List AttentionSet
  pub command : verdict machine request ≡ Ok (PersistentReserveOut action bytes)
  pub list : list_decoded action request.sent ≡ Ok order
  pub ordered : Orders machine.reservations request.nexus order answer established state

-- the state after the order of an event, if it is one (own)
abbrev pub IsOrderedIn : Machine → Event OfDrive → PrState → Type 0
IsOrderedIn machine (Execute request) state = IsOrdered machine request state
IsOrderedIn machine _ state = ⊥

-- the state of an order with the reply GOOD is held (SPC-4, PERSISTENT RESERVE OUT)
abbrev pub StandsWhereGood : Machine → Request → Reply → PrState → Type 0
StandsWhereGood machine request reply state =
    (action : PrAction) (bytes : ℕ) → verdict machine request ≡ Ok (PersistentReserveOut action bytes)
    → reply.status ≡ Good → IsOrdered machine request state

module _ {M D : Type 0} (medium : M → MediumState) (below : Below M Change) (disk : D → DiskState) where
  -- A drive before and after an event: a host was answered, a turn was taken; a medium was loaded, or returned; or was
  -- put in, not loaded; or came out, or did not. A power on makes another drive (own).
  abbrev pub GoesBy : DriveState M (OpenStore D) → Event OfDrive → DriveState M (OpenStore D) → Type 0
  GoesBy old (Execute request) new =
      (reply : Reply) × Answers medium below store_kept (store_below disk) old request reply new
  GoesBy old FlushTurn new = (turn : Turn) × TakesTurn medium below store_kept old turn new
  GoesBy old (Load loaded) new =
      (given : M) × (medium given ≡ loaded) × (result : Result Unit (M × Reply))
      × TakesIn medium below old given result new
  GoesBy old (Insert put) new = (given : M) × (medium given ≡ put) × (new ≡ record old { bay = Unloaded given })
  GoesBy old Unload new = (result : Result M Reply) × GoesOut medium below old result new
  GoesBy old (PowerOn given keeper) new = ⊥

  -- events one after another, each of the drive that the last one left (own)
  abbrev pub GoesByAll : DriveState M (OpenStore D) → List (Event OfDrive) → DriveState M (OpenStore D) → Type 0
  GoesByAll old [] new = new ≡ old
  GoesByAll old (event ∷ events) new =
      (mid : DriveState M (OpenStore D)) × GoesBy old event mid × GoesByAll mid events new

  -- the disk of a drive's store (own)
  abbrev pub disk_of : DriveState M (OpenStore D) → DiskState
  disk_of drive = disk drive.keeper.disk

  -- A drive and its store: the reservations meet the rules, and what was saved last gives the same as they do after a
  -- loss of power. The store has failed exactly where a save is in doubt. Over an honest disk each image that a crash
  -- may leave shows what was saved (own).
  pub record IsHolding (drive : DriveState M (OpenStore D)) : Type 0 where
    pub sound : IsSound drive.reservations
    pub saved : power_loss (latest drive.keeper.states) ≡ power_loss drive.reservations
    pub at_rest : drive.keeper.failed ≡ is_some drive.keeper.torn
    pub shows :
        (disk_of drive).honest
        → Each (disk_of drive) (ShowsStates drive.keeper.heading drive.keeper.states drive.keeper.torn)

  -- A state that may be found in place of the held one: one whose save failed earlier, or the one that this event's
  -- order makes, where the drive holds it after the event or its save failed in it (own).
  abbrev pub MayStand : DriveState M (OpenStore D) → Event OfDrive → DriveState M (OpenStore D) → PrState → Type 0
  MayStand old event new state =
      (old.keeper.torn ≡ Some state)
      ⊎ (IsOrderedIn (machine_of medium store_kept old) event state
      × ((new.reservations ≡ state) ⊎ (new.keeper.torn ≡ Some state)))

  -- the image opens as what a loss of power leaves of the reservations before this event, or of a state that may
  -- stand in their place (own)
  abbrev pub LeavesHeld : DriveState M (OpenStore D) → Event OfDrive → DriveState M (OpenStore D) → List ℕ → Type 0
  LeavesHeld old event new image =
      OpensAs old.keeper.heading (power_loss old.reservations) image
      ⊎ ((state : PrState) × MayStand old event new state × OpensAs old.keeper.heading (power_loss state) image)

  -- the image opens as what a loss of power leaves of the drive's reservations, or of the state whose save failed (own)
  abbrev pub GivesHeld : DriveState M (OpenStore D) → List ℕ → Type 0
  GivesHeld drive image =
      OpensAs drive.keeper.heading (power_loss drive.reservations) image
      ⊎ ((state : PrState) × (drive.keeper.torn ≡ Some state)
      × OpensAs drive.keeper.heading (power_loss state) image)

  -- for a drive and store as in IsHolding, over an honest disk: each image that a crash may leave now opens as what a
  -- loss of power leaves of its reservations, or of the state whose save failed (own)
  abbrev pub HoldingGives : Type 0
  HoldingGives =
      (drive : DriveState M (OpenStore D)) → IsHolding drive → (disk_of drive).honest
      → Each (disk_of drive) (GivesHeld drive)

  -- After any events, a drive is stopped at any moment of the last one, over an honest disk. Each image that a crash
  -- may leave opens as what a loss of power leaves of the reservations before that event, or of a state that may stand
  -- in their place. After the event it is that of the reservations then, or of the state whose save failed; and the
  -- disk stays honest (own).
  abbrev pub ReservationsOutlive : Type 0
  ReservationsOutlive =
      (old mid new : DriveState M (OpenStore D)) (events : List (Event OfDrive)) (last : Event OfDrive)
      → (disk_of old).honest → IsHolding old → GoesByAll old events mid → GoesBy mid last new
      → LeavesOnly (disk_of mid) (disk_of new) (LeavesHeld mid last new) × Each (disk_of new) (GivesHeld new)
      × (disk_of new).honest × IsHolding new

  -- The same for one event, over any disk: IsHolding holds after it. Where the store's disk is honest it stays honest,
  -- and each image that a crash may leave opens as said there, inside the event and after it (own).
  abbrev pub HoldingGoesOn : Type 0
  HoldingGoesOn =
      (old new : DriveState M (OpenStore D)) (event : Event OfDrive) → IsHolding old → GoesBy old event new
      → IsHolding new
      × ((disk_of old).honest
      → (disk_of new).honest
      × LeavesOnly (disk_of old) (disk_of new) (LeavesHeld old event new) × Each (disk_of new) (GivesHeld new))

  -- IsHolding holds of a drive that was just switched on with what a loss of power leaves of the last saved state (own)
  abbrev pub SwitchedOnHolds : Type 0
  SwitchedOnHolds =
      (given : Option M) (store : OpenStore D) (reservations : PrState) (new : DriveState M (OpenStore D))
      → reservations ≡ left_of (store_kept store).saved → IsSound reservations → store.failed ≡ is_some store.torn
      → ((disk store.disk).honest → Each (disk store.disk) (ShowsStates store.heading store.states store.torn))
      → SwitchesOn medium below given reservations store (Ok new) → IsHolding new

  -- After the reply GOOD to an order that has passed all checks, the drive holds a state that the order makes. Nothing
  -- else changes the reservations (own).
  abbrev pub OrdersStand : Type 0
  OrdersStand =
      ((old new : DriveState M (OpenStore D)) (event : Event OfDrive) → GoesBy old event new
      → (new.reservations ≡ old.reservations) ⊎ IsOrderedIn (machine_of medium store_kept old) event new.reservations)
      × ((old new : DriveState M (OpenStore D)) (request : Request) (reply : Reply)
      → Answers medium below store_kept (store_below disk) old request reply new
      → StandsWhereGood (machine_of medium store_kept old) request reply new.reservations)
