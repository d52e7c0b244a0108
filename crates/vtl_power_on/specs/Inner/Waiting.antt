-- A library whose drives are not all switched on yet.
use Rattle.std.specs.Prelude.{◌≡◌, ◌≢◌, ℕ, true, false, List, Option, None, Some, is_some, Ok}
use Rattle.tape_disk.specs.Disk.{DiskState}
use Rattle.tape_buffer.specs.Moves.{buffer_below}
use Rattle.tape_buffer.specs.State.{BufferState, state_of}
use Rattle.aptpl_store.specs.Kept.{store_kept}
use Rattle.aptpl_store.specs.State.{OpenStore}
use Rattle.element_slots.specs.Slots.{is_slot}
use Rattle.drive_commands.specs.Media.{SwitchesOn}
use Rattle.drive_commands.specs.State.{left_of}
use Rattle.bay_moves.specs.Elements.{BayState, Becomes, bay_at}
use Rattle.vtl_config.specs.declared.entries.CartridgeEntry.{CartridgeEntry}
use Rattle.vtl_config.specs.Entries.{AreDistinct, homes_of}
use Rattle.vtl_power_on.specs.Sides.{SidesGiven}
use Rattle.vtl_power_on.specs.Starting.{AreGiven, CartridgeIsRefused, StandsAt, StaysOff}
use Rattle.vtl_power_on.specs.Unfinished.{NotStartedState, StartingState, home_at, waits_at}
use Rattle.vtl_faults.specs.declared.faults.VtlFault.{VtlFault}
use Rattle.vtl_faults.specs.declared.faults.VtlFault.TheVariants.{Words, Config, Script, Frame, Device, NoMemory}

module _ {D : Type 0} where
  -- a cartridge was put into its home, which was empty, and all else is as it was (own)
  pub record PutsHome (address : ℕ) (cartridge : BufferState D) (old new : StartingState D) : Type 0 where
    pub free : home_at old address ≡ None
    pub here : home_at new address ≡ Some cartridge
    pub elsewhere : (other : ℕ) → other ≢ address → home_at new other ≡ home_at old other
    pub bays : new.held.bays ≡ old.held.bays

  module _ (state : D → DiskState) where
    -- the drive of this number was switched on over a store, with the cartridge that waited for it; it was not on
    -- before, and all else is as it was (own)
    pub record SwitchesOnAt (number : ℕ) (store : OpenStore D) (old new : StartingState D) : Type 0 where
      pub no_slot : is_slot number ≡ false
      pub free : bay_at old.held.bays number ≡ None
      pub bay : BayState D
      pub here : Becomes number (Some bay) old.held.bays new.held.bays
      pub on :
          SwitchesOn (state_of state) (buffer_below state) (waits_at old.waiting number)
          (left_of (store_kept store).saved) store (Ok bay)
      pub slots : new.held.slots ≡ old.held.slots
      pub taken : waits_at new.waiting number ≡ None
      pub elsewhere : (other : ℕ) → other ≢ number → waits_at new.waiting other ≡ waits_at old.waiting other

    -- why the drive of this number was not switched on over a store: memory ran out; or it is on (own)
    abbrev pub IsOffAt :
        ℕ → OpenStore D → (old new : StartingState D) → (back : Option (OpenStore D)) → VtlFault → Type 0
    IsOffAt number store old new back NoMemory = StaysOff state number store old new × (back ≡ Some store)
    IsOffAt number store old new back Config = is_some (bay_at old.held.bays number) ≡ true
    IsOffAt number store old new back Device = ⊥
    IsOffAt number store old new back Words = ⊥
    IsOffAt number store old new back (Script line) = ⊥
    IsOffAt number store old new back (Frame frame) = ⊥

  module _ (gives_cartridge : CartridgeEntry → BufferState D → Type 0) where
    -- each of these cartridges is at its home, and no drive is on (own)
    pub record AreHome (entries : List CartridgeEntry) (starting : StartingState D) : Type 0 where
      pub given : AreGiven gives_cartridge entries
      pub homes : (address : ℕ) → StandsAt gives_cartridge entries address (home_at starting address)
      pub bays : (number : ℕ) → bay_at starting.held.bays number ≡ None

module _ {D : Type 0} (state : D → DiskState) (sides : SidesGiven D) (gives_up : NotStartedState D → Type 0)
    (entries : List CartridgeEntry) where
  -- why not all of these cartridges are at their homes, over such sides: the first that is refused, and those before it
  -- were given up; or homes are double (own)
  abbrev pub IsNotHome : VtlFault → Type 0
  IsNotHome Device = CartridgeIsRefused state sides gives_up entries Device
  IsNotHome NoMemory = CartridgeIsRefused state sides gives_up entries NoMemory
  IsNotHome Config = ¬ AreDistinct (homes_of entries)
  IsNotHome Words = ⊥
  IsNotHome (Script line) = ⊥
  IsNotHome (Frame number) = ⊥
