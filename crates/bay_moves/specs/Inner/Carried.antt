-- What a move on lent slots and drives says to the functions below it.
use Rattle.std.specs.Prelude.{◌≡◌, ℕ, [], nat_eq, true, false, not, ◌&&◌, ◌||◌, List, Option, None, Some, is_some, if◌then◌else◌}
use Rattle.tape_disk.specs.Disk.{DiskState}
use Rattle.scsi_sense.specs.declared.replies.Reply.{Reply}
use Rattle.scsi_sense.specs.Replies.{check_with, conflict}
use Rattle.scsi_sense.specs.Senses.{destination_full, invalid_element_address, source_empty}
use Rattle.drive_commands.specs.State.{medium_in}
use Rattle.element_slots.specs.Slots.{held_at, is_slot}
use Rattle.tape_buffer.specs.State.{BufferState}
use Rattle.bay_moves.specs.Elements.{BayState, HeldState}
use Rattle.bay_moves.specs.Inner.Going.{IsAwakeAt}
use Rattle.bay_moves.specs.declared.lent.End.{End}
use Rattle.bay_moves.specs.Lent.{InEach}
use Rattle.bay_moves.specs.Moves.{MovesMedium, refusal_of_move}

-- why nothing moves between these ends, by the first cause that holds
abbrev pub refusal_between : End → End → Option Reply
refusal_between source destination =
    if not (source.known && destination.known) then Some (check_with invalid_element_address [])
    else (if source.reserved || destination.reserved then Some conflict
    else (if not source.full then Some (check_with source_empty [])
    else (if destination.full then Some (check_with destination_full []) else None)))

module _ {D : Type 0} where
  -- the end of a move at an address that names no drive
  abbrev pub slot_end : List (Option (BufferState D)) → ℕ → End
  slot_end slots address =
      record { known = is_slot address; reserved = false; full = is_some (held_at slots address) }

  -- the end of a move at the address of this drive
  abbrev pub drive_end : BayState D → End
  drive_end bay =
      record { known = true; reserved = is_some bay.reservations.reservation; full = is_some (medium_in bay.bay) }

  -- the other end of a move out of this drive, where no other drive is named
  abbrev pub end_beside : List (Option (BufferState D)) → BayState D → ℕ → ℕ → End
  end_beside slots bay from to = if nat_eq from to then drive_end bay else slot_end slots to

module _ {D : Type 0} (state : D → DiskState) where
  -- a cartridge is moved or not; where the move is not refused, the loaded medium at its source is awake
  pub record IsMoved (from to : ℕ) (reply : Reply) (old new : HeldState D) : Type 0 where
    pub answer : MovesMedium state old from to reply new
    pub awake : refusal_of_move old from to ≡ None → IsAwakeAt state old from

  -- the same in each library with these lent slots and drives
  abbrev pub MovesLent :
      ℕ → ℕ → List (Option (BufferState D)) → Option (BayState D) → Option (BayState D) → Reply
      → List (Option (BufferState D)) → Option (BayState D) → Option (BayState D) → Type 0
  MovesLent from to slots source destination reply slots' source' destination' =
      InEach from to slots source destination slots' source' destination' (IsMoved from to reply)
