-- A library whose drives are not all switched on yet, as it is returned where it is not switched on (own).
use Rattle.std.specs.Prelude.{◌≡◌, ℕ, ◌-◌, nat_le, List, slice_index_or, Option, None, if◌then◌else◌}
use Rattle.tape_buffer.specs.State.{BufferState}
use Rattle.aptpl_store.specs.State.{OpenStore}
use Rattle.element_slots.specs.Slots.{held_at, is_slot}
use Rattle.bay_moves.specs.Elements.{HeldState, bay_at}

-- a library, and the cartridges for drives that are not switched on yet, from drive 1 on (own)
pub record StartingState (D : Type 0) : Type 0 where
  pub held : HeldState D
  pub waiting : List (Option (BufferState D))

-- the same where it is not switched on, and the store of the drive for which memory ran out, where it did (own)
pub record NotStartedState (D : Type 0) : Type 0 where
  pub starting : StartingState D
  pub store : Option (OpenStore D)

-- what waits for the drive of this number (own)
abbrev pub waits_at : {C : Type 0} → List (Option C) → ℕ → Option C
waits_at waiting number = if nat_le 1 number then slice_index_or waiting (number - 1) None else None

module _ {D : Type 0} where
  -- the cartridge at its home: in a slot, or waiting for a drive (own)
  abbrev pub home_at : StartingState D → ℕ → Option (BufferState D)
  home_at starting address =
      if is_slot address then held_at starting.held.slots address else waits_at starting.waiting address

  -- no cartridge is there, and no drive is on (own)
  pub record IsBare (starting : StartingState D) : Type 0 where
    pub homes : (address : ℕ) → home_at starting address ≡ None
    pub bays : (number : ℕ) → bay_at starting.held.bays number ≡ None
