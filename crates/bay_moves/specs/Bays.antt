-- The invariant of a drive's type over the disks of its cartridge and its store, and what each call leaves on them at
-- every moment inside it.
use Rattle.std.specs.Prelude.{◌≡◌, ◌⊎◌, ℕ, List, [], false, Option, None, Some, option_map, Result, Ok, Err}
use Rattle.tape_disk.specs.Disk.{DiskState, Each}
use Rattle.tape_disk.specs.Moments.{LeavesOnly}
use Rattle.tape_disk.specs.TwoDisks.{AreHonest, EachOfTwo, TwoDisks}
use Rattle.scsi_sense.specs.declared.replies.Reply.{Reply}
use Rattle.pr_core.specs.declared.states.PrState.{PrState}
use Rattle.pr_core.specs.States.{empty_state}
use Rattle.volume_core.specs.Volume.{Part}
use Rattle.volume_core.specs.declared.changes.Change.{Change}
use Rattle.cartridge.specs.Contents.{Start}
use Rattle.accepted_changes.specs.Core.{CanAcknowledge, Core, IsCore}
use Rattle.accepted_changes.specs.Device.{one_disk, two_disks}
use Rattle.accepted_changes.specs.Events.{IsEvent, ShowsCore}
use Rattle.tape_buffer.specs.Moves.{IsHere, IsSafeOrPending, LeavesAlone, ShowsOn, buffer_below, medium_core}
use Rattle.tape_buffer.specs.Rules.{medium_rules}
use Rattle.tape_buffer.specs.State.{BufferState, IsSettledIn, disks_in, state_of}
use Rattle.aptpl_store.specs.Contents.{ShowsStates}
use Rattle.aptpl_store.specs.Kept.{core_of, store_below, store_kept, store_rules}
use Rattle.aptpl_store.specs.State.{OpenStore}
use Rattle.drive_commands.specs.declared.bays.Bay.{Bay}
use Rattle.drive_commands.specs.declared.bays.Bay.TheVariants.{Loaded}
use Rattle.drive_commands.specs.Data.{AnswersLent}
use Rattle.drive_commands.specs.Execute.{Answers}
use Rattle.drive_commands.specs.Relations.{Made}
use Rattle.drive_commands.specs.State.{medium_in}
use Rattle.drive_commands.specs.Work.{Request}
use Rattle.bay_moves.specs.Accepted.{PrEvent, order_rules, orders_core, pr_after, pr_after_all}
use Rattle.bay_moves.specs.Elements.{BayState}
use Rattle.drive_commands.specs.Events.{Event, Execute, OfDrive}
use Rattle.bay_moves.specs.Reservations.{GivesHeld, IsHolding, LeavesHeld, disk_of}

module _ {D : Type 0} (state : D → DiskState) where
  -- a medium was opened before, or a crash leaves only what reads return (own)
  abbrev pub IsOpenedOrSettled : BufferState D → Type 0
  IsOpenedOrSettled medium = ((state_of state medium).unread ≡ false) ⊎ IsSettledIn state medium.held

  -- The invariant of a cartridge. Its disks are at hand. What is safe is stored, and what is stored was accepted. While
  -- its device works and nothing was stopped, all that is stored is safe, and the rest is pending. Where it was opened
  -- or is settled, and gives a volume, each pair of images that a crash may leave now gives what is safe, or what is
  -- stored (own).
  pub record KeepsCartridge (medium : BufferState D) : Type 0 where
    pub hand : IsHere medium.held
    pub core : IsCore (medium_core state medium)
    pub whole : IsSafeOrPending (medium_core state medium) medium.pending
    pub shows :
        IsOpenedOrSettled medium → (volume : List Part) → (state_of state medium).stored ≡ Some volume
        → ShowsOn state (disks_in medium.held) (medium_core state medium)

  -- the same, but that the disks are at hand (own)
  pub record ShowsCartridge (medium : BufferState D) : Type 0 where
    pub core : IsCore (medium_core state medium)
    pub whole : IsSafeOrPending (medium_core state medium) medium.pending
    pub shows :
        IsOpenedOrSettled medium → (volume : List Part) → (state_of state medium).stored ≡ Some volume
        → ShowsOn state (disks_in medium.held) (medium_core state medium)

  -- the same for the cartridge in a drive, if there is one (own)
  abbrev pub ShowsCartridgeIn : Option (BufferState D) → Type 0
  ShowsCartridgeIn None = Unit {0}
  ShowsCartridgeIn (Some medium) = ShowsCartridge medium

  -- the invariant of the cartridge in a drive, if there is one (own)
  abbrev pub KeepsCartridgeIn : Option (BufferState D) → Type 0
  KeepsCartridgeIn None = Unit {0}
  KeepsCartridgeIn (Some medium) = KeepsCartridge medium

  -- the invariant of a drive's type: for the cartridge in it, and for its reservations and their store (own)
  pub record KeepsBoth (bay : BayState D) : Type 0 where
    pub cartridge : KeepsCartridgeIn (medium_in bay.bay)
    pub reservations : IsHolding (state_of state) (buffer_below state) state bay

  -- For all orders and losses of power that lead to the reservations of a drive, and to the state whose save failed, if
  -- one did: over an honest disk each image that a crash may leave now of its store gives what a loss of power leaves
  -- of all these, or of those before that order (own).
  abbrev pub ShowsOrders : BayState D → Type 0
  ShowsOrders bay =
      (events : List PrEvent) (failed : Option PrEvent) → pr_after_all empty_state events ≡ bay.reservations
      → bay.keeper.torn ≡ option_map (pr_after bay.reservations) failed → (state bay.keeper.disk).honest
      → Each (state bay.keeper.disk) (ShowsCore order_rules (orders_core bay.keeper.heading events failed))

  -- each drive whose reservations agree with its store shows the orders that led to them (own)
  abbrev pub HoldersShowOrders : Type 0
  HoldersShowOrders =
      (bay : BayState D) → IsHolding (state_of state) (buffer_below state) state bay → ShowsOrders bay

  -- From one core to the other, over two honest disks, the steps of one event accept exactly these changes. At each
  -- moment since, a crash leaves what is safe or stored after some of the steps; now, what is safe or stored in the end
  -- (own).
  abbrev pub EventOn :
      Option (TwoDisks D) → Option (TwoDisks D) → Core Start Change → Core Start Change → List Change → Type 0
  EventOn (Some disks) (Some disks') old new made =
      AreHonest state disks
      → IsEvent medium_rules (two_disks state) disks disks' old new made
      × EachOfTwo state disks' (ShowsCore medium_rules new)
  EventOn None None old new made = made ≡ []
  EventOn _ _ old new made = ⊥

  -- the same from one medium, which was opened or is settled and gave a volume, to a later one (own)
  abbrev pub EventIn : Option (BufferState D) → Option (BufferState D) → List Change → Type 0
  EventIn (Some old) (Some new) made =
      IsOpenedOrSettled old → (volume : List Part) → (state_of state old).stored ≡ Some volume
      → EventOn (disks_in old.held) (disks_in new.held) (medium_core state old) (medium_core state new) made
  EventIn None None made = made ≡ []
  EventIn _ _ made = ⊥

  -- a cartridge and a later one, if there are both: at each moment since, a crash leaves what it might have left before
  -- (own)
  abbrev pub StaysAlone : Option (BufferState D) → Option (BufferState D) → Type 0
  StaysAlone (Some old) (Some new) = LeavesAlone state old new
  StaysAlone _ _ = Unit {0}

  -- the same in an event of a drive in which none is loaded, so of each first opening (own)
  abbrev pub UnloadedStays :
      Bay (BufferState D) → Option (BufferState D) → Option (BufferState D) → Type 0
  UnloadedStays (Loaded medium) before after = Unit {0}
  UnloadedStays _ before after = StaysAlone before after

  -- from one store to the other, over an honest disk, the steps of one event save exactly these states (own)
  abbrev pub SavesIn : OpenStore D → OpenStore D → List PrState → Type 0
  SavesIn old new saved =
      (state old.disk).honest
      → IsEvent store_rules (one_disk state) old.disk new.disk (core_of old) (core_of new) saved

  -- Every moment of an event of a drive, in which the cartridge became another value: exactly these changes are
  -- accepted and these states saved, each by the steps of one event. Nothing is written on a cartridge that was not
  -- loaded. At each moment since, an image of the store's disk opens as what a loss of power leaves of the reservations
  -- before, or of a state that may stand in their place (own).
  pub record EveryMoment
      (old : BayState D) (event : Event OfDrive) (made : Made) (before after : Option (BufferState D))
      (new : BayState D)
      : Type 0 where
    pub cartridge : EventIn before after made.changes
    pub alone : UnloadedStays old.bay before after
    pub saves : SavesIn old.keeper new.keeper made.saved
    pub reservations :
        (disk_of (state_of state) (buffer_below state) state old).honest
        → LeavesOnly (disk_of (state_of state) (buffer_below state) state old)
        (disk_of (state_of state) (buffer_below state) state new)
        (LeavesHeld (state_of state) (buffer_below state) state old event new)

  -- the reply to a host is a step of the machine, and the event of that step says what is left at every moment of it
  -- (own)
  pub record AnswersInEvent (old : BayState D) (request : Request) (reply : Reply) (new : BayState D) : Type 0 where
    pub step : Answers (state_of state) (buffer_below state) store_kept (store_below state) old request reply new
    pub moments :
        EveryMoment old (Execute request) step.taken.made (medium_in old.bay) (medium_in new.bay) new

  -- the same for a host that lends its data: this is left of them (own)
  pub record AnswersLentInEvent
      (old : BayState D) (request : Request) (reply : Reply) (new : BayState D) (left : List ℕ) : Type 0 where
    pub step :
        AnswersLent (state_of state) (buffer_below state) store_kept (store_below state) old request reply new left
    pub moments :
        EveryMoment old (Execute request) step.step.taken.made (medium_in old.bay) (medium_in new.bay) new

  -- all that the medium in a drive has accepted is safe, if there is a medium (own)
  abbrev pub IsSafeIn : Option (BufferState D) → Type 0
  IsSafeIn None = Unit {0}
  IsSafeIn (Some medium) = CanAcknowledge (medium_core state medium)

  -- the medium after a loading: in the drive, or returned (own)
  abbrev pub loaded_or_back : Result Unit (BufferState D × Reply) → BayState D → Option (BufferState D)
  loaded_or_back (Ok done) new = medium_in new.bay
  loaded_or_back (Err back) new = Some back.0

  -- the medium after an unloading: returned, or in the drive (own)
  abbrev pub out_or_in : Result (BufferState D) Reply → BayState D → Option (BufferState D)
  out_or_in (Ok out) new = Some out
  out_or_in (Err reply) new = medium_in new.bay

  -- Every moment of a power on over a cartridge, if any, and a store. No change is accepted, and nothing is written on
  -- the cartridge. At each moment since, an image of the store's disk opens as what a loss of power leaves of the
  -- drive's new reservations, or of the state whose save had failed (own).
  pub record EveryMomentOn (given : Option (BufferState D)) (store : OpenStore D) (new : BayState D) : Type 0 where
    pub cartridge : EventIn given (medium_in new.bay) []
    pub alone : StaysAlone given (medium_in new.bay)
    pub reservations :
        (state store.disk).honest
        → LeavesOnly (state store.disk) (disk_of (state_of state) (buffer_below state) state new)
        (GivesHeld (state_of state) (buffer_below state) state new)

  -- The same where memory ran out, and cartridge and store are returned: an image of the store's disk shows the states
  -- that were saved before (own).
  pub record EveryMomentOff
      (given : Option (BufferState D)) (store : OpenStore D) (back : Option (BufferState D)) (left : OpenStore D)
      : Type 0 where
    pub cartridge : EventIn given back []
    pub alone : StaysAlone given back
    pub reservations :
        (state store.disk).honest
        → LeavesOnly (state store.disk) (state left.disk) (ShowsStates store.heading store.states store.torn)
