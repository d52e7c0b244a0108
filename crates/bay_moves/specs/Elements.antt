-- The slots and drives of a library.
use Rattle.std.specs.Prelude.{◌≡◌, ◌≢◌, ℕ, ◌-◌, ◌||◌, nat_le, Bool, false, List, slice_index_or, Option, None, Some, is_some, if◌then◌else◌}
use Rattle.element_slots.specs.Slots.{held_at, is_slot}
use Rattle.drive_commands.specs.State.{DriveState, medium_in}
use Rattle.tape_buffer.specs.State.{BufferState}
use Rattle.aptpl_store.specs.State.{OpenStore}

-- a drive in buffered mode over a cartridge on two disks, and over a store of its reservations (own)
abbrev pub BayState : Type 0 → Type 0
BayState D = DriveState (BufferState D) (OpenStore D)

-- a library: the content of each slot, from the first on, and the drives, from number 1 on (own)
pub record HeldState (D : Type 0) : Type 0 where
  pub slots : List (Option (BufferState D))
  pub bays : List (Option (BayState D))

module _ {D : Type 0} where
  -- the drive of this number, if it is configured (own)
  abbrev pub bay_at : List (Option (BayState D)) → ℕ → Option (BayState D)
  bay_at bays number = if nat_le 1 number then slice_index_or bays (number - 1) None else None

  -- the cartridge in a drive, if there are both (own)
  abbrev pub cartridge_in : Option (BayState D) → Option (BufferState D)
  cartridge_in None = None
  cartridge_in (Some bay) = medium_in bay.bay

  -- there is a drive, and a reservation is held at it (own)
  abbrev pub is_reserved_at : Option (BayState D) → Bool
  is_reserved_at None = false
  is_reserved_at (Some bay) = is_some bay.reservations.reservation

  -- this is the element address of a slot, or the number of a configured drive (SMC-3, element addresses)
  abbrev pub is_element : HeldState D → ℕ → Bool
  is_element held address = is_slot address || is_some (bay_at held.bays address)

  -- the cartridge at this element address (SMC-3, element addresses)
  abbrev pub cartridge_at : HeldState D → ℕ → Option (BufferState D)
  cartridge_at held address =
      if is_slot address then held_at held.slots address else cartridge_in (bay_at held.bays address)

  -- the drive of this number is this one now, and every other drive stays (own)
  pub record Becomes (number : ℕ) (bay : Option (BayState D)) (old new : List (Option (BayState D))) : Type 0 where
    pub here : bay_at new number ≡ bay
    pub elsewhere : (other : ℕ) → other ≢ number → bay_at new other ≡ bay_at old other
