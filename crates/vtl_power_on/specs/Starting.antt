-- What a library holds when it was just switched on, and what was given where it was not.
use Rattle.std.specs.Prelude.{◌≡◌, ◌≢◌, ◌⊎◌, ℕ, [], ◌∷◌, ◌++◌, true, false, List, Option, None, Some, Result, Ok, Err, is_some, codes}
use Rattle.std.specs.List.{All, Contains}
use Rattle.vtl_base.specs.declared.faults.NoMemory.{NoMemory}
use Rattle.tape_disk.specs.Disk.{DiskState}
use Rattle.tape_buffer.specs.Moves.{buffer_below}
use Rattle.tape_buffer.specs.State.{BufferState, state_of}
use Rattle.aptpl_store.specs.Kept.{store_kept}
use Rattle.aptpl_store.specs.State.{OpenStore}
use Rattle.element_slots.specs.Slots.{held_at, is_slot}
use Rattle.drive_commands.specs.Media.{SwitchesOn}
use Rattle.drive_commands.specs.State.{left_of}
use Rattle.bay_moves.specs.Elements.{BayState, HeldState, bay_at}
use Rattle.vtl_config.specs.Entries.{AreDistinct, address_of, homes_of, numbers_of}
use Rattle.vtl_config.specs.declared.entries.CartridgeEntry.{CartridgeEntry}
use Rattle.vtl_config.specs.declared.entries.DriveEntry.{DriveEntry}
use Rattle.vtl_power_on.specs.Sides.{IsNewCartridge, IsNewStore, SidesGiven}
use Rattle.vtl_power_on.specs.Unfinished.{NotStartedState, StartingState, waits_at}
use Rattle.vtl_faults.specs.declared.faults.VtlFault.{VtlFault}
use Rattle.vtl_faults.specs.declared.faults.VtlFault.TheVariants.{Words, Config, Script, Frame, Device}
use Rattle.vtl_faults.specs.declared.faults.VtlFault.TheVariants as Faults

-- each of these entries was given something (own)
abbrev pub AreGiven : {E G : Type 0} → (E → G → Type 0) → List E → Type 0
AreGiven {E} {G} gives entries = All (λ entry. (given : G) × gives entry given) entries

-- each of these entries before one was given something, and for that one this refusal holds (own)
pub record IsRefusedIn {E G : Type 0} (gives : E → G → Type 0) (refuses : E → Type 0) (entries : List E) :
    Type 0 where
  pub before : List E
  pub entry : E
  pub behind : List E
  pub are : entries ≡ before ++ entry ∷ behind
  pub given : AreGiven gives before
  pub refused : refuses entry

-- a library is like this, or it was not switched on for such a fault (own)
abbrev pub IsStart : {D : Type 0} → (HeldState D → Type 0) → (VtlFault → Type 0)
    → Result (HeldState D) VtlFault → Type 0
IsStart Is IsNot (Ok held) = Is held
IsStart Is IsNot (Err fault) = IsNot fault

-- the barcode of the built-in configuration's cartridge (own)
abbrev pub built_in_barcode : List ℕ
built_in_barcode = codes "T00001L6"

-- the capacities of the built-in configuration's cartridge: one, of 16 MiB (own)
abbrev pub built_in_capacities : List ℕ
built_in_capacities = 16777216 ∷ []

module _ {D : Type 0} where
  module _ (state : D → DiskState) where
    -- The library of the built-in configuration: drive 1 alone, switched on over a new store, with a new cartridge of
    -- this barcode and these capacities; no slot holds anything (own).
    pub record IsBuiltIn (barcode capacities : List ℕ) (held : HeldState D) : Type 0 where
      pub slots : (address : ℕ) → held_at held.slots address ≡ None
      pub others : (number : ℕ) → ¬ (number ≡ 1) → bay_at held.bays number ≡ None
      pub bay : BayState D
      pub here : bay_at held.bays 1 ≡ Some bay
      pub store : OpenStore D
      pub is_new : IsNewStore 1 store
      pub cartridge : BufferState D
      pub is_empty : IsNewCartridge barcode capacities cartridge
      pub on :
          SwitchesOn (state_of state) (buffer_below state) (Some cartridge) (left_of (store_kept store).saved) store
          (Ok bay)

  module _ (gives_cartridge : CartridgeEntry → BufferState D → Type 0) where
    -- what stands at a home: the cartridge that was given for an entry of this home; nothing where no entry has it
    -- (own)
    abbrev pub StandsAt : List CartridgeEntry → ℕ → Option (BufferState D) → Type 0
    StandsAt entries address None = ¬ Contains (homes_of entries) address
    StandsAt entries address (Some cartridge) =
        (entry : CartridgeEntry) × Contains entries entry × (address_of entry.home ≡ address)
        × gives_cartridge entry cartridge

    module _ (state : D → DiskState) (gives_store : DriveEntry → OpenStore D → Type 0) where
      -- the drive of an entry was switched on over the store that was given for it, with the cartridge whose home it
      -- is, and with the reservations that a loss of power leaves of what the store saved last (own)
      pub record IsSwitchedOn (entries : List CartridgeEntry) (entry : DriveEntry) (bay : BayState D) : Type 0 where
        pub store : OpenStore D
        pub given : gives_store entry store
        pub cartridge : Option (BufferState D)
        pub stands : StandsAt entries entry.number cartridge
        pub on :
            SwitchesOn (state_of state) (buffer_below state) cartridge (left_of (store_kept store).saved) store
            (Ok bay)

      -- the drive of a number: that of an entry, switched on; none where no entry has the number (own)
      abbrev pub IsDriveOf : List CartridgeEntry → List DriveEntry → ℕ → Option (BayState D) → Type 0
      IsDriveOf entries drives number None = ¬ Contains (numbers_of drives) number
      IsDriveOf entries drives number (Some bay) =
          (entry : DriveEntry) × Contains drives entry × (entry.number ≡ number) × IsSwitchedOn entries entry bay

      -- a library was switched on: each slot has the cartridge whose home it is, and each drive of the configuration
      -- is on, with the cartridge whose home it is (own)
      pub record IsStarted (entries : List CartridgeEntry) (drives : List DriveEntry) (held : HeldState D) :
          Type 0 where
        pub slots : (address : ℕ) → is_slot address ≡ true → StandsAt entries address (held_at held.slots address)
        pub bays : (number : ℕ) → IsDriveOf entries drives number (bay_at held.bays number)

      -- the cartridges of these entries are at their homes, or wait for a drive that is not on yet, and these drives
      -- are switched on; nothing waits for a drive that is on (own)
      pub record AreOn (entries : List CartridgeEntry) (drives : List DriveEntry) (starting : StartingState D) :
          Type 0 where
        pub given : AreGiven gives_cartridge entries
        pub stores : AreGiven gives_store drives
        pub slots : (address : ℕ) → is_slot address ≡ true
            → StandsAt entries address (held_at starting.held.slots address)
        pub bays : (number : ℕ) → IsDriveOf entries drives number (bay_at starting.held.bays number)
        pub waiting : (number : ℕ) → is_slot number ≡ false → bay_at starting.held.bays number ≡ None
            → StandsAt entries number (waits_at starting.waiting number)
        pub taken : (number : ℕ) → is_some (bay_at starting.held.bays number) ≡ true
            → waits_at starting.waiting number ≡ None

module _ {D : Type 0} (state : D → DiskState) where
  -- Memory ran out as the drive of this number was to be switched on over a store: it is not on, and the cartridge that
  -- waited for it waits for it again, as the try left it. All else is as it was (own).
  pub record StaysOff (number : ℕ) (store : OpenStore D) (old new : StartingState D) : Type 0 where
    pub no_slot : is_slot number ≡ false
    pub held : new.held ≡ old.held
    pub reason : NoMemory
    pub off :
        SwitchesOn (state_of state) (buffer_below state) (waits_at old.waiting number)
        (left_of (store_kept store).saved) store (Err (waits_at new.waiting number, store, reason))
    pub elsewhere : (other : ℕ) → other ≢ number → waits_at new.waiting other ≡ waits_at old.waiting other

module _ {D : Type 0} (state : D → DiskState) (sides : SidesGiven D) (gives_up : NotStartedState D → Type 0) where
  -- what was given for these entries was given up as it is: each cartridge at its home, or waiting for a drive that is
  -- not on, and each drive switched on (own)
  abbrev pub IsGivenUp : List CartridgeEntry → List DriveEntry → Type 0
  IsGivenUp entries drives =
      (starting : StartingState D) × gives_up (record { starting = starting; store = None })
      × AreOn sides.gives_cartridge state sides.gives_store entries drives starting

  -- one of these cartridges is the first to be refused, with this fault, and all that was given before it is given up
  -- (own)
  abbrev pub CartridgeIsRefused : List CartridgeEntry → VtlFault → Type 0
  CartridgeIsRefused entries fault =
      (refused : IsRefusedIn sides.gives_cartridge (λ entry. sides.refuses_cartridge entry fault) entries)
      × IsGivenUp refused.before []

  -- the store of one of these drives is the first to be refused, with this fault, and all that was given before it is
  -- given up (own)
  abbrev pub StoreIsRefused : List CartridgeEntry → List DriveEntry → VtlFault → Type 0
  StoreIsRefused entries drives fault =
      (refused : IsRefusedIn sides.gives_store (λ entry. sides.refuses_store entry fault) drives)
      × IsGivenUp entries refused.before

  -- Memory ran out as one of these drives was to be switched on over the store that was given for it. All that was
  -- given is given up, that store too, and the drive's cartridge as the try left it (own).
  pub record IsLeftOff (entries : List CartridgeEntry) (drives : List DriveEntry) : Type 0 where
    pub before : List DriveEntry
    pub entry : DriveEntry
    pub behind : List DriveEntry
    pub are : drives ≡ before ++ entry ∷ behind
    pub store : OpenStore D
    pub given : sides.gives_store entry store
    pub old : StartingState D
    pub on : AreOn sides.gives_cartridge state sides.gives_store entries before old
    pub new : StartingState D
    pub off : StaysOff state entry.number store old new
    pub up : gives_up (record { starting = new; store = Some store })

  module _ (entries : List CartridgeEntry) (drives : List DriveEntry) where
    -- Why a library is not switched on over such sides. One is refused, the first in the order of cartridges and then
    -- of drives, and all that was given before it is given up. Or memory runs out as a drive is switched on. Or homes
    -- or numbers are double, which they are not in a configuration (own).
    abbrev pub IsNotStarted : VtlFault → Type 0
    IsNotStarted Device = CartridgeIsRefused entries Device ⊎ StoreIsRefused entries drives Device
    IsNotStarted Faults.NoMemory =
        CartridgeIsRefused entries Faults.NoMemory ⊎ StoreIsRefused entries drives Faults.NoMemory
        ⊎ IsLeftOff entries drives
    IsNotStarted Config = ¬ (AreDistinct (homes_of entries) × AreDistinct (numbers_of drives))
    IsNotStarted Words = ⊥
    IsNotStarted (Script line) = ⊥
    IsNotStarted (Frame number) = ⊥
