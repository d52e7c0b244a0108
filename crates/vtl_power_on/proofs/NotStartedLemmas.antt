-- Why a library is not switched on.
use Rattle.std.proofs.Common.{◌≡◌, inl, inr, Bool, true, List, [], ◌∷◌, ◌++◌, Option, None, is_some, refl, sym, subst}
use Rattle.tape_disk.specs.Disk.{DiskState}
use Rattle.aptpl_store.specs.State.{OpenStore}
use Rattle.bay_moves.specs.Elements.{bay_at}
use Rattle.vtl_config.specs.Entries.{AreDistinct, homes_of, numbers_of}
use Rattle.vtl_config.specs.declared.entries.CartridgeEntry.{CartridgeEntry}
use Rattle.vtl_config.specs.declared.entries.DriveEntry.{DriveEntry}
use Rattle.vtl_faults.specs.declared.faults.VtlFault.{VtlFault}
use Rattle.vtl_faults.specs.declared.faults.VtlFault.TheVariants.{Words, Config, Script, Frame, Device, NoMemory}
use Rattle.vtl_faults.specs.FromBelow.{IsFailure}
use Rattle.vtl_power_on.specs.Inner.Waiting.{AreHome, IsNotHome, IsOffAt}
use Rattle.vtl_power_on.specs.Sides.{SidesGiven}
use Rattle.vtl_power_on.specs.Starting.{AreGiven, AreOn, CartridgeIsRefused, IsGivenUp, IsNotStarted, IsRefusedIn, StoreIsRefused}
use Rattle.vtl_power_on.specs.Unfinished.{NotStartedState, StartingState}
use Rattle.vtl_power_on.proofs.StartingLemmas.{on_yet}

-- an entry was refused, and those before it were given something
refused_at : {E G : Type 0} (gives : E → G → Type 0) (refuses : E → Type 0) (entries before behind : List E) (entry : E)
    → entries ≡ before ++ entry ∷ behind → AreGiven gives before → refuses entry
    → (refused : IsRefusedIn gives refuses entries) × (refused.before ≡ before)
refused_at gives refuses entries before behind entry are given refused = (
  record { before = before; entry = entry; behind = behind; are = are; given = given; refused = refused },
  refl,
)

module _ {D : Type 0} (state : D → DiskState) (sides : SidesGiven D) (gives_up : NotStartedState D → Type 0) where
  -- the cartridge at a place was refused, and those before it were given up
  cartridge_refused : (entries : List CartridgeEntry) (fault : VtlFault) (before behind : List CartridgeEntry)
      (entry : CartridgeEntry) (starting : StartingState D) → entries ≡ before ++ entry ∷ behind
      → AreHome sides.gives_cartridge before starting → sides.refuses_cartridge entry fault
      → gives_up (record { starting = starting; store = None })
      → CartridgeIsRefused state sides gives_up entries fault
  cartridge_refused entries fault before behind entry starting are home refused up =
      let found = refused_at sides.gives_cartridge (λ (e : CartridgeEntry). sides.refuses_cartridge e fault) entries
      before behind entry are home.given refused in (
        found.0,
        subst (λ (before : List CartridgeEntry). IsGivenUp state sides gives_up before []) (sym found.1)
            (starting, up, on_yet sides.gives_cartridge state sides.gives_store before starting home),
      )

  -- the store of the drive at a place was refused, and all before it was given up
  store_refused : (entries : List CartridgeEntry) (drives : List DriveEntry) (fault : VtlFault)
      (before behind : List DriveEntry) (entry : DriveEntry) (starting : StartingState D)
      → drives ≡ before ++ entry ∷ behind
      → AreOn sides.gives_cartridge state sides.gives_store entries before starting
      → sides.refuses_store entry fault → gives_up (record { starting = starting; store = None })
      → StoreIsRefused state sides gives_up entries drives fault
  store_refused entries drives fault before behind entry starting are on refused up =
      let found = refused_at sides.gives_store (λ (e : DriveEntry). sides.refuses_store e fault) drives before
      behind entry are on.stores refused in (
        found.0,
        subst (λ (before : List DriveEntry). IsGivenUp state sides gives_up entries before) (sym found.1)
            (starting, up, on),
      )

module _ {D : Type 0} (state : D → DiskState) (sides : SidesGiven D) (gives_up : NotStartedState D → Type 0)
    (entries : List CartridgeEntry) where
  -- why not all cartridges are at their homes: the one at a place was refused, and those before it were given up
  pub refused_home : (fault : VtlFault) (before behind : List CartridgeEntry) (entry : CartridgeEntry)
      (starting : StartingState D) → entries ≡ before ++ entry ∷ behind → IsFailure fault
      → AreHome sides.gives_cartridge before starting → sides.refuses_cartridge entry fault
      → gives_up (record { starting = starting; store = None }) → IsNotHome state sides gives_up entries fault
  refused_home Device before behind entry starting are failure home refused up =
      cartridge_refused state sides gives_up entries Device before behind entry starting are home refused up
  refused_home NoMemory before behind entry starting are failure home refused up =
      cartridge_refused state sides gives_up entries NoMemory before behind entry starting are home refused up
  refused_home Config before behind entry starting are failure home refused up = absurd failure
  refused_home Words before behind entry starting are failure home refused up = absurd failure
  refused_home (Script line) before behind entry starting are failure home refused up = absurd failure
  refused_home (Frame number) before behind entry starting are failure home refused up = absurd failure

  pub not_home : (fault : VtlFault) (taken : Bool) → (fault ≡ Config) × (taken ≡ true)
      → (taken ≡ true → ¬ AreDistinct (homes_of entries)) → IsNotHome state sides gives_up entries fault
  not_home Config taken is double = double is.1
  not_home Words taken is double = absurd (cc)
  not_home (Script line) taken is double = absurd (cc)
  not_home (Frame number) taken is double = absurd (cc)
  not_home Device taken is double = absurd (cc)
  not_home NoMemory taken is double = absurd (cc)

  module _ (drives : List DriveEntry) where
    -- why a library is not switched on
    pub off_of : (fault : VtlFault) → IsNotHome state sides gives_up entries fault
        → IsNotStarted state sides gives_up entries drives fault
    off_of Device why = inl why
    off_of NoMemory why = inl why
    off_of Config why = λ distinct. why distinct.0
    off_of Words why = why
    off_of (Script line) why = why
    off_of (Frame number) why = why

    -- the store of the drive at a place was refused, and all before it was given up
    pub refused_on : (fault : VtlFault) (before behind : List DriveEntry) (entry : DriveEntry)
        (starting : StartingState D) → drives ≡ before ++ entry ∷ behind → IsFailure fault
        → AreOn sides.gives_cartridge state sides.gives_store entries before starting
        → sides.refuses_store entry fault → gives_up (record { starting = starting; store = None })
        → IsNotStarted state sides gives_up entries drives fault
    refused_on Device before behind entry starting are failure on refused up =
        inr (store_refused state sides gives_up entries drives Device before behind entry starting are on refused up)
    refused_on NoMemory before behind entry starting are failure on refused up =
        inr (inl
        (store_refused state sides gives_up entries drives NoMemory before behind entry starting are on refused up))
    refused_on Config before behind entry starting are failure on refused up = absurd failure
    refused_on Words before behind entry starting are failure on refused up = absurd failure
    refused_on (Script line) before behind entry starting are failure on refused up = absurd failure
    refused_on (Frame number) before behind entry starting are failure on refused up = absurd failure

    -- the drive at a place was not switched on, and all was given up
    pub not_on : (fault : VtlFault) (before behind : List DriveEntry) (entry : DriveEntry) (store : OpenStore D)
        (back : Option (OpenStore D)) (old new : StartingState D) → drives ≡ before ++ entry ∷ behind
        → AreOn sides.gives_cartridge state sides.gives_store entries before old → sides.gives_store entry store
        → IsOffAt state entry.number store old new back fault
        → gives_up (record { starting = new; store = back })
        → (is_some (bay_at old.held.bays entry.number) ≡ true → ¬ AreDistinct (numbers_of drives))
        → IsNotStarted state sides gives_up entries drives fault
    not_on NoMemory before behind entry store back old new are on given off up double =
        inr (inr (record {
          before = before;
          entry = entry;
          behind = behind;
          are = are;
          store = store;
          given = given;
          old = old;
          on = on;
          new = new;
          off = off.0;
          up =
              subst (λ (s : Option (OpenStore D)). gives_up (record { starting = new; store = s })) off.1 up;
        }))
    not_on Config before behind entry store back old new are on given off up double = λ distinct. double off distinct.1
    not_on Device before behind entry store back old new are on given off up double = absurd off
    not_on Words before behind entry store back old new are on given off up double = absurd off
    not_on (Script line) before behind entry store back old new are on given off up double = absurd off
    not_on (Frame number) before behind entry store back old new are on given off up double = absurd off
