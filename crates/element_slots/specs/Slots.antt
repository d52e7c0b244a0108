-- The slots of a library: a list of places, from the first slot's element address on.
use Rattle.std.specs.Prelude.{◌≡◌, ◌≢◌, ℕ, ◌-◌, ◌&&◌, nat_lt, nat_le, Bool, not, List, slice_index_or, Option, None, Some, is_some, if◌then◌else◌}
use Rattle.vtl_base.specs.declared.limits.TheConstants.{FIRST_SLOT, SLOTS}
use Rattle.element_slots.specs.declared.error.SlotError.{SlotError}
use Rattle.element_slots.specs.declared.error.SlotError.TheVariants.{BadAddress, Full, Empty}

-- this is the element address of a slot (own; SMC-3 has the word)
abbrev pub is_slot : ℕ → Bool
is_slot address = nat_le FIRST_SLOT address && nat_lt (address - FIRST_SLOT) SLOTS

module _ {C : Type 0} where
  -- the content of the slot with this element address; None where there is no such slot (own)
  abbrev pub held_at : List (Option C) → ℕ → Option C
  held_at places address = if is_slot address then slice_index_or places (address - FIRST_SLOT) None else None

  -- this address holds that now, and every other address is unchanged (own)
  pub record Puts (address : ℕ) (held : Option C) (old new : List (Option C)) : Type 0 where
    pub here : held_at new address ≡ held
    pub elsewhere : (other : ℕ) → other ≢ address → held_at new other ≡ held_at old other

  -- why nothing is placed: no slot has the address, or the slot is full (SMC-3, MOVE MEDIUM)
  abbrev pub refusal_of_placing : List (Option C) → ℕ → Option SlotError
  refusal_of_placing places address = if not (is_slot address) then Some BadAddress
      else (if is_some (held_at places address) then Some Full else None)

  -- why nothing is taken: no slot has the address, or the slot is empty (SMC-3, MOVE MEDIUM)
  abbrev pub refusal_of_taking : List (Option C) → ℕ → Option SlotError
  refusal_of_taking places address = if not (is_slot address) then Some BadAddress
      else (if is_some (held_at places address) then None else Some Empty)
