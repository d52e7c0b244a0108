-- A library that is switched on, entry by entry.
use Rattle.std.proofs.Common.{◌≡◌, ◌≢◌, ◌⊎◌, inl, inr, ℕ, true, false, List, [], ◌∷◌, ◌++◌, Option, None, Some, is_some, sym, ap, ◌∙◌, arith, subst}
use Rattle.std.proofs.lemmas.List.{map-append}
use Rattle.std.proofs.lemmas.List.Elements.{All-nil, All-push, Contains-append_left, Contains-push, Contains-push_cases}
use Rattle.std.specs.List.{Contains}
use Rattle.tape_disk.specs.Disk.{DiskState}
use Rattle.tape_buffer.specs.State.{BufferState}
use Rattle.aptpl_store.specs.State.{OpenStore}
use Rattle.element_slots.specs.Slots.{held_at}
use Rattle.bay_moves.specs.Elements.{BayState, bay_at}
use Rattle.vtl_config.specs.Entries.{AreDistinct, address_of, homes_of, numbers_of}
use Rattle.vtl_config.specs.declared.entries.CartridgeEntry.{CartridgeEntry}
use Rattle.vtl_config.specs.declared.entries.DriveEntry.{DriveEntry}
use Rattle.vtl_power_on.specs.Inner.Waiting.{AreHome, PutsHome, SwitchesOnAt}
use Rattle.vtl_power_on.specs.Starting.{AreOn, IsDriveOf, IsStarted, StandsAt}
use Rattle.vtl_power_on.specs.Unfinished.{IsBare, StartingState, home_at, waits_at}
use Rattle.vtl_power_on.proofs.DistinctLemmas.{contains_map, same_or_not, twice}
use Rattle.vtl_power_on.proofs.WaitingLemmas.{home_in_slot, home_waits}

module _ {D : Type 0} where
  -- where nothing is, no drive is on
  pub home_yet : (gives : CartridgeEntry → BufferState D → Type 0) (starting : StartingState D) → IsBare starting
      → AreHome gives [] starting
  home_yet gives starting bare = record {
    given = All-nil _;
    homes = λ address. by address (home_at starting address) (bare.homes address);
    bays = bare.bays;
  }
    where
      by : (address : ℕ) (found : Option (BufferState D)) → found ≡ None → StandsAt gives [] address found
      by address None none = λ (k, below, at). absurd (omega (arith, below))
      by address (Some cartridge) none = absurd (cc)

-- one entry more
homes_on : (before : List CartridgeEntry) (entry : CartridgeEntry)
    → homes_of (before ++ entry ∷ []) ≡ homes_of before ++ address_of entry.home ∷ []
homes_on before entry = map-append (λ (e : CartridgeEntry). address_of e.home) before (entry ∷ [])

numbers_on : (before : List DriveEntry) (entry : DriveEntry)
    → numbers_of (before ++ entry ∷ []) ≡ numbers_of before ++ entry.number ∷ []
numbers_on before entry = map-append (λ (e : DriveEntry). e.number) before (entry ∷ [])

module _ {D : Type 0} (gives : CartridgeEntry → BufferState D → Type 0) where
  -- what stands at another home stands there with one entry more
  stands_still : (before : List CartridgeEntry) (entry : CartridgeEntry) (address : ℕ) (found : Option (BufferState D))
      → address ≢ address_of entry.home → StandsAt gives before address found
      → StandsAt gives (before ++ entry ∷ []) address found
  stands_still before entry address None differs none = λ there.
      by (Contains-push_cases (homes_of before) (address_of entry.home) address
      (subst (λ (xs : List ℕ). Contains xs address) (homes_on before entry) there))
    where
      by : Contains (homes_of before) address ⊎ (address_of entry.home ≡ address) → ⊥
      by (inl there) = none there
      by (inr same) = differs (sym same)
  stands_still before entry address (Some cartridge) differs stands = (
    stands.0,
    Contains-append_left before (entry ∷ []) stands.0 stands.1,
    stands.2,
    stands.3,
  )

  pub home_on : (before : List CartridgeEntry) (entry : CartridgeEntry) (cartridge : BufferState D)
      (old new : StartingState D) → AreHome gives before old → gives entry cartridge
      → PutsHome (address_of entry.home) cartridge old new → AreHome gives (before ++ entry ∷ []) new
  home_on before entry cartridge old new home given puts = record {
    given = All-push (λ (e : CartridgeEntry). (x : BufferState D) × gives e x) before entry home.given one;
    homes = λ address. by address (same_or_not address (address_of entry.home));
    bays = λ number. ap (λ (bays : List (Option (BayState D))). bay_at bays number) puts.bays ∙ home.bays number;
  }
    where
      one : (x : BufferState D) × gives entry x
      one = (cartridge, given)

      by : (address : ℕ) → (address ≡ address_of entry.home) ⊎ (address ≢ address_of entry.home)
          → StandsAt gives (before ++ entry ∷ []) address (home_at new address)
      by address (inl same) =
          subst (λ (found : Option (BufferState D)). StandsAt gives (before ++ entry ∷ []) address found)
          (sym (ap (λ (a : ℕ). home_at new a) same ∙ puts.here))
          (entry, Contains-push before entry, sym same, given)
      by address (inr differs) =
          subst (λ (found : Option (BufferState D)). StandsAt gives (before ++ entry ∷ []) address found)
          (sym (puts.elsewhere address differs))
          (stands_still before entry address (home_at old address) differs (home.homes address))

  -- a home that is taken is that of an entry before
  taken_home : (before : List CartridgeEntry) (address : ℕ) (found : Option (BufferState D))
      → StandsAt gives before address found → is_some found ≡ true → Contains (homes_of before) address
  taken_home before address None stands taken = absurd (cc)
  taken_home before address (Some cartridge) stands taken =
      subst (λ (a : ℕ). Contains (homes_of before) a) stands.2
      (contains_map (λ (e : CartridgeEntry). address_of e.home) before stands.0 stands.1)

  pub double_home : (before behind : List CartridgeEntry) (entry : CartridgeEntry) (starting : StartingState D)
      → AreHome gives before starting → is_some (home_at starting (address_of entry.home)) ≡ true
      → ¬ AreDistinct (homes_of (before ++ entry ∷ behind))
  double_home before behind entry starting home taken distinct =
      twice (homes_of before) (homes_of behind) (address_of entry.home)
      (taken_home before (address_of entry.home) (home_at starting (address_of entry.home))
      (home.homes (address_of entry.home)) taken)
      (subst (λ (xs : List ℕ). AreDistinct xs)
      (map-append (λ (e : CartridgeEntry). address_of e.home) before (entry ∷ behind)) distinct)

  module _ (state : D → DiskState) (gives_store : DriveEntry → OpenStore D → Type 0) where
    pub on_yet : (entries : List CartridgeEntry) (starting : StartingState D) → AreHome gives entries starting
        → AreOn gives state gives_store entries [] starting
    on_yet entries starting home = record {
      given = home.given;
      stores = All-nil _;
      slots = λ address on.
          subst (λ (found : Option (BufferState D)). StandsAt gives entries address found)
          (home_in_slot starting address on) (home.homes address);
      bays = λ number. by number (bay_at starting.held.bays number) (home.bays number);
      waiting = λ number off none.
          subst (λ (found : Option (BufferState D)). StandsAt gives entries number found)
          (home_waits starting number off) (home.homes number);
      taken = λ number on.
          let clash : is_some (bay_at starting.held.bays number) ≡ false =
          ap (λ (found : Option (BayState D)). is_some found) (home.bays number) in absurd (cc);
    }
      where
        by : (number : ℕ) (found : Option (BayState D)) → found ≡ None
            → IsDriveOf gives state gives_store entries [] number found
        by number None none = λ (k, below, at). absurd (omega (arith, below))
        by number (Some bay) none = absurd (cc)

    -- a drive of another number is on with one entry more
    on_still : (entries : List CartridgeEntry) (before : List DriveEntry) (entry : DriveEntry) (number : ℕ)
        (found : Option (BayState D)) → number ≢ entry.number
        → IsDriveOf gives state gives_store entries before number found
        → IsDriveOf gives state gives_store entries (before ++ entry ∷ []) number found
    on_still entries before entry number None differs none = λ there.
        by (Contains-push_cases (numbers_of before) entry.number number
        (subst (λ (xs : List ℕ). Contains xs number) (numbers_on before entry) there))
      where
        by : Contains (numbers_of before) number ⊎ (entry.number ≡ number) → ⊥
        by (inl there) = none there
        by (inr same) = differs (sym same)
    on_still entries before entry number (Some bay) differs on = (
      on.0,
      Contains-append_left before (entry ∷ []) on.0 on.1,
      on.2,
      on.3,
    )

    pub on_more : (entries : List CartridgeEntry) (before : List DriveEntry) (entry : DriveEntry) (store : OpenStore D)
        (old new : StartingState D) → AreOn gives state gives_store entries before old → gives_store entry store
        → SwitchesOnAt state entry.number store old new
        → AreOn gives state gives_store entries (before ++ entry ∷ []) new
    on_more entries before entry store old new on given switched = record {
      given = on.given;
      stores = All-push (λ (e : DriveEntry). (x : OpenStore D) × gives_store e x) before entry on.stores one;
      slots = λ address is.
          subst (λ (slots : List (Option (BufferState D))). StandsAt gives entries address (held_at slots address))
          (sym switched.slots) (on.slots address is);
      bays = λ number. by number (same_or_not number entry.number);
      waiting = λ number off none.
          let differs : number ≢ entry.number = λ same.
          let clash : Some switched.bay ≡ None =
          sym switched.here.here ∙ ap (λ (n : ℕ). bay_at new.held.bays n) (sym same) ∙ none in absurd (cc) in
          subst (λ (found : Option (BufferState D)). StandsAt gives entries number found)
          (sym (switched.elsewhere number differs))
          (on.waiting number off (sym (switched.here.elsewhere number differs) ∙ none));
      taken = λ number there. emptied number there (same_or_not number entry.number);
    }
      where
        one : (x : OpenStore D) × gives_store entry x
        one = (store, given)

        emptied : (number : ℕ) → is_some (bay_at new.held.bays number) ≡ true
            → (number ≡ entry.number) ⊎ (number ≢ entry.number) → waits_at new.waiting number ≡ None
        emptied number there (inl same) =
            ap (λ (n : ℕ). waits_at new.waiting n) same ∙ switched.taken
        emptied number there (inr differs) =
            switched.elsewhere number differs
            ∙ on.taken number
            (sym (ap (λ (found : Option (BayState D)). is_some found) (switched.here.elsewhere number differs)) ∙ there)

        by : (number : ℕ) → (number ≡ entry.number) ⊎ (number ≢ entry.number)
            → IsDriveOf gives state gives_store entries (before ++ entry ∷ []) number (bay_at new.held.bays number)
        by number (inl same) =
            subst (λ (found : Option (BayState D)).
            IsDriveOf gives state gives_store entries (before ++ entry ∷ []) number found)
            (sym (ap (λ (n : ℕ). bay_at new.held.bays n) same ∙ switched.here.here)) (
              entry,
              Contains-push before entry,
              sym same,
              record {
                store = store;
                given = given;
                cartridge = waits_at old.waiting entry.number;
                stands = on.waiting entry.number switched.no_slot switched.free;
                on = switched.on;
              },
            )
        by number (inr differs) =
            subst (λ (found : Option (BayState D)).
            IsDriveOf gives state gives_store entries (before ++ entry ∷ []) number found)
            (sym (switched.here.elsewhere number differs))
            (on_still entries before entry number (bay_at old.held.bays number) differs (on.bays number))

    -- a drive that is on is that of an entry before
    taken_number : (entries : List CartridgeEntry) (before : List DriveEntry) (number : ℕ)
        (found : Option (BayState D)) → IsDriveOf gives state gives_store entries before number found
        → is_some found ≡ true → Contains (numbers_of before) number
    taken_number entries before number None on taken = absurd (cc)
    taken_number entries before number (Some bay) on taken =
        subst (λ (n : ℕ). Contains (numbers_of before) n) on.2
        (contains_map (λ (e : DriveEntry). e.number) before on.0 on.1)

    pub double_number : (entries : List CartridgeEntry) (before behind : List DriveEntry) (entry : DriveEntry)
        (starting : StartingState D) → AreOn gives state gives_store entries before starting
        → is_some (bay_at starting.held.bays entry.number) ≡ true
        → ¬ AreDistinct (numbers_of (before ++ entry ∷ behind))
    double_number entries before behind entry starting on taken distinct =
        twice (numbers_of before) (numbers_of behind) entry.number
        (taken_number entries before entry.number (bay_at starting.held.bays entry.number) (on.bays entry.number) taken)
        (subst (λ (xs : List ℕ). AreDistinct xs)
        (map-append (λ (e : DriveEntry). e.number) before (entry ∷ behind)) distinct)

    pub all_on : (entries : List CartridgeEntry) (drives : List DriveEntry) (starting : StartingState D)
        → AreOn gives state gives_store entries drives starting
        → IsStarted gives state gives_store entries drives starting.held
    all_on entries drives starting on = record { slots = on.slots; bays = on.bays }
