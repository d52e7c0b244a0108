-- What survives at each moment while a library is asked one thing after another.
use Rattle.std.specs.Prelude.{◌≡◌, ◌++◌, ℕ, List, [], ◌∷◌, Some, flat_map, map}
use Rattle.tape_disk.specs.Disk.{DiskState}
use Rattle.tape_disk.specs.TwoDisks.{AreHonest, TwoDisks}
use Rattle.scsi_sense.specs.declared.replies.Reply.{Reply}
use Rattle.volume_core.specs.declared.changes.Change.{Change}
use Rattle.accepted_changes.specs.Core.{CanAcknowledge}
use Rattle.tape_buffer.specs.Moves.{medium_core}
use Rattle.tape_buffer.specs.State.{BufferState, disks_in, state_of}
use Rattle.aptpl_store.specs.Kept.{store_kept}
use Rattle.drive_commands.specs.declared.bays.Bay.TheVariants.{Loaded}
use Rattle.drive_commands.specs.State.{machine_of}
use Rattle.drive_commands.specs.Events.{Event, Execute, InDrive, OfLibrary}
use Rattle.drive_commands.specs.Synchronize.{Acknowledges, IsSynchronizing}
use Rattle.vtl_script.specs.declared.items.Item.{Item}
use Rattle.bay_moves.specs.Cartridges.{IsKnown, KeepsIn}
use Rattle.bay_moves.specs.Elements.{BayState, HeldState, bay_at, cartridge_at}
use Rattle.bay_moves.specs.Journeys.{GoesWithAll}
use Rattle.bay_moves.specs.Runs.{AnswersEvent, events_of}

module _ {D : Type 0} (state : D → DiskState) where
  -- What the cartridge at a place had accepted survives a stop at any moment while these events are answered, wherever
  -- the cartridge is then. A first part of the changes accepted since survives with it (own).
  abbrev pub KeptWhile : HeldState D → ℕ → List (Event OfLibrary) → List Reply → HeldState D → Type 0
  KeptWhile old place events replies new =
      (after : ℕ) × (changes : List Change) × GoesWithAll state old place events (map Some replies) changes new after
      × KeepsIn state (cartridge_at old place) (cartridge_at new after) changes

  -- An event was answered, and then these. If it was an acknowledged synchronizing command of a drive whose loaded
  -- cartridge has honest disks, what that cartridge had accepted survives while these are answered (own).
  abbrev pub KeptSince :
      HeldState D → Event OfLibrary → Reply → HeldState D → List (Event OfLibrary) → List Reply → HeldState D → Type 0
  KeptSince old (InDrive number (Execute request)) reply mid events replies new =
      (bay : BayState D) (medium : BufferState D) (disks : TwoDisks D)
      → bay_at old.bays number ≡ Some bay → bay.bay ≡ Loaded medium → disks_in medium.held ≡ Some disks
      → AreHonest state disks
      → IsSynchronizing (machine_of (state_of state) store_kept bay) request.cdb → Acknowledges reply
      → KeptWhile mid number events replies new
  KeptSince old _ reply mid events replies new = Unit {0}

  -- events are answered one after another, and what is acknowledged on the way survives (own)
  abbrev pub AnswersKeeping : HeldState D → List (Event OfLibrary) → List Reply → HeldState D → Type 0
  AnswersKeeping old [] [] new = new ≡ old
  AnswersKeeping old (event ∷ events) (reply ∷ replies) new =
      (mid : HeldState D) × AnswersEvent state old event reply mid × KeptSince old event reply mid events replies new
      × AnswersKeeping mid events replies new
  AnswersKeeping old [] (reply ∷ replies) new = ⊥
  AnswersKeeping old (event ∷ events) [] new = ⊥

  -- A library answered these items of a script with these replies, and where the script ended in a fault then maybe
  -- more. At each moment of that, what was acknowledged on the way survives, and what was safe at its start (own).
  pub record RunKeeps (old new : HeldState D) (items : List Item) (replies : List Reply) : Type 0 where
    pub more : List Item
    pub others : List Reply
    pub acknowledged : AnswersKeeping old (flat_map events_of (items ++ more)) (replies ++ others) new
    pub safe :
        (place : ℕ) (medium : BufferState D) → cartridge_at old place ≡ Some medium → IsKnown state medium
        → CanAcknowledge (medium_core state medium)
        → KeptWhile old place (flat_map events_of (items ++ more)) (replies ++ others) new
