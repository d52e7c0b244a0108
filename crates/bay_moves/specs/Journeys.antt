-- A cartridge that is followed through a library, wherever it is moved.
use Rattle.std.specs.Prelude.{◌≡◌, ◌≢◌, ◌⊎◌, ℕ, List, [], ◌∷◌, ◌++◌, false, Option, None, Some, Result}
use Rattle.tape_disk.specs.Disk.{DiskState}
use Rattle.scsi_sense.specs.declared.replies.Reply.{Reply}
use Rattle.scsi_sense.specs.Replies.{good_with}
use Rattle.volume_core.specs.declared.changes.Change.{Change}
use Rattle.accepted_changes.specs.Core.{CanAcknowledge}
use Rattle.tape_buffer.specs.Moves.{buffer_below, medium_core}
use Rattle.tape_buffer.specs.State.{BufferState, state_of}
use Rattle.aptpl_store.specs.Kept.{store_below, store_kept}
use Rattle.drive_commands.specs.Relations.{Made}
use Rattle.drive_commands.specs.State.{machine_of}
use Rattle.drive_commands.specs.Synchronize.{Acknowledges, IsSynchronizing}
use Rattle.drive_commands.specs.Work.{Request}
use Rattle.drive_commands.specs.Events.{Carry, Event, InDrive, OfDrive, OfLibrary, WriteOut}
use Rattle.element_slots.specs.Slots.{is_slot}
use Rattle.bay_moves.specs.Cartridges.{IsKnown, KeepsIn}
use Rattle.bay_moves.specs.Commands.{Commands}
use Rattle.bay_moves.specs.Events.{Does}
use Rattle.bay_moves.specs.declared.finishing.Unwritten.{Unwritten}
use Rattle.bay_moves.specs.Elements.{BayState, HeldState, bay_at, cartridge_at}
use Rattle.bay_moves.specs.Finish.{WritesOut}
use Rattle.bay_moves.specs.Moves.{BayIs, KeepsCartridges, MovesMedium}

-- The place of a cartridge after a move with this reply: the destination if the cartridge was at the source and the
-- reply is GOOD, else its old place (SMC-3, MOVE MEDIUM).
abbrev pub IsThen : ℕ → ℕ → Reply → ℕ → ℕ → Type 0
IsThen from to reply place after =
    ((reply ≡ good_with []) × (place ≡ from) × (after ≡ to))
    ⊎ (((reply ≢ good_with []) ⊎ (place ≢ from)) × (after ≡ place))

module _ {D : Type 0} (state : D → DiskState) where
  -- the drive of this number is used, and nothing else changes (own)
  pub record DriveDoes
      (number : ℕ) (event : Event OfDrive) (reply : Option Reply) (made : Made) (old new : HeldState D) : Type 0 where
    pub number_is : is_slot number ≡ false
    pub bay : BayState D
    pub is : bay_at old.bays number ≡ Some bay
    pub left : BayState D
    pub does : Does (state_of state) (buffer_below state) store_kept (store_below state) bay event reply made left
    pub now : BayIs number left old new

  -- An event of a library, with the reply of a command or a move. It accepts exactly these changes of the cartridge at
  -- one place, whose place afterwards is the second (own).
  abbrev pub GoesWith :
      HeldState D → ℕ → Event OfLibrary → Option Reply → List Change → HeldState D → ℕ → Type 0
  GoesWith old place (InDrive number event) reply changes new after =
      (made : Made) × DriveDoes number event reply made old new × (after ≡ place)
      × (((number ≡ place) × (changes ≡ made.changes)) ⊎ ((number ≢ place) × (changes ≡ [])))
  GoesWith old place (Carry from to) (Some reply) changes new after =
      MovesMedium state old from to reply new × KeepsCartridges state old from to reply new
      × IsThen from to reply place after × (changes ≡ [])
  GoesWith old place WriteOut None changes new after =
      (result : Result Unit Unwritten) × WritesOut state old result new × (after ≡ place) × (changes ≡ [])
  GoesWith old place _ _ changes new after = ⊥

  -- events of a library, one after another, with their replies (own)
  abbrev pub GoesWithAll :
      HeldState D → ℕ → List (Event OfLibrary) → List (Option Reply) → List Change → HeldState D → ℕ → Type 0
  GoesWithAll old place [] [] changes new after = (changes ≡ []) × (new ≡ old) × (after ≡ place)
  GoesWithAll old place (event ∷ events) (reply ∷ replies) changes new after =
      (mid : HeldState D) × (between : ℕ) × (first : List Change) × (rest : List Change)
      × GoesWith old place event reply first mid between × GoesWithAll mid between events replies rest new after
      × (changes ≡ first ++ rest)
  GoesWithAll old place _ _ changes new after = ⊥

  -- A drive of a library with a known cartridge in it acknowledges a synchronizing command; then commands, turns, moves
  -- and writings out follow, of this drive and of others. What that cartridge had accepted up to the acknowledgement
  -- survives a stop at any moment, wherever the cartridge is then (own).
  abbrev pub StopsKeepWhatIsMoved : Type 0
  StopsKeepWhatIsMoved =
      (old acked new : HeldState D) (number after : ℕ) (medium : BufferState D)
      (request : Request) (reply : Reply) (events : List (Event OfLibrary)) (replies : List (Option Reply))
      (changes : List Change)
      → cartridge_at old number ≡ Some medium → IsKnown state medium
      → (answers : Commands state number request old reply acked)
      → IsSynchronizing (machine_of (state_of state) store_kept answers.bay) request.cdb → Acknowledges reply
      → GoesWithAll acked number events replies changes new after
      → KeepsIn state (cartridge_at acked number) (cartridge_at new after) changes

  -- The same holds from any moment at which all that a known cartridge had accepted is safe, as after a loading or a
  -- writing out: whatever is done then, a stop leaves all of that, and a first part of what is accepted since (own).
  abbrev pub KeepsWhatIsSafe : Type 0
  KeepsWhatIsSafe =
      (old new : HeldState D) (place after : ℕ) (medium : BufferState D) (events : List (Event OfLibrary))
      (replies : List (Option Reply)) (changes : List Change)
      → cartridge_at old place ≡ Some medium → IsKnown state medium → CanAcknowledge (medium_core state medium)
      → GoesWithAll old place events replies changes new after
      → KeepsIn state (cartridge_at old place) (cartridge_at new after) changes
