-- Where reservations are saved to outlive a loss of power, as a contract sees it.
use Rattle.std.specs.Prelude.{◌≡◌, ◌<◌, ◌+◌, ◌*◌, ℕ, Option, None, Some, Result, Ok, Err, List, [], ◌∷◌, Bool, true, false, is_some, count_by}
use Rattle.vtl_base.specs.declared.layout.TheConstants.{FRAME_HEAD, REGISTRATION_BYTES, STATE_HEAD}
use Rattle.vtl_base.specs.Below.{Below}
use Rattle.pr_core.specs.declared.states.PrState.{PrState}
use Rattle.pr_core.specs.declared.keepers.KeeperError.{KeeperError}
use Rattle.pr_core.specs.declared.keepers.KeeperError.TheVariants.{NoMemory, SideFull, Device, Failed}

-- what a keeper has saved, and whether it has failed (own)
pub record KeeperState : Type 0 where
  -- the state that was saved last; None for a keeper that saves nothing
  pub saved : Option PrState
  -- for a keeper that has failed, the state whose save was in flight: it may have been saved or not
  pub torn : Option PrState
  pub failed : Bool
  -- the bytes that may still be added; None for no bound
  pub room : Option ℕ

-- the bytes of a state in a store, as a frame of its own: 9 for gate, length, APTPL, type, holder and count, and 9 for
-- each registration (own)
abbrev pub state_frame_size : PrState → ℕ
state_frame_size state = FRAME_HEAD + STATE_HEAD + REGISTRATION_BYTES * count_by is_some state.keys

-- a state, as a frame of its own, exceeds the room (own)
abbrev pub IsStoreFull : Option ℕ → PrState → Type 0
IsStoreFull None state = ⊥
IsStoreFull (Some room) state = room < state_frame_size state

-- the room falls by the bytes of the state's frame; without a bound there is none afterwards (own)
abbrev pub LeavesStoreRoom : Option ℕ → PrState → Option ℕ → Type 0
LeavesStoreRoom None state now = now ≡ None
LeavesStoreRoom (Some room) state None = ⊥
LeavesStoreRoom (Some room) state (Some left) = left + state_frame_size state ≡ room

-- the saved state after a save; None stays for a keeper that saves nothing (own)
abbrev pub saved_over : Option PrState → PrState → Option PrState
saved_over None state = None
saved_over (Some before) state = Some state

-- the last of these states; the given one where there are none (own)
abbrev pub last_saved : PrState → List PrState → PrState
last_saved state [] = state
last_saved state (next ∷ later) = last_saved next later

-- a state was saved whole, and the keeper has not failed (own)
pub record Stored (old : KeeperState) (state : PrState) (new : KeeperState) : Type 0 where
  pub saved : new.saved ≡ saved_over old.saved state
  pub whole : new.torn ≡ None
  pub works : new.failed ≡ false
  pub room : LeavesStoreRoom old.room state new.room

-- The device failed while a state that fits was being saved, and the keeper has failed. The saved state is the one
-- before, or this one; the room stays (own).
pub record Broken (old : KeeperState) (state : PrState) (new : KeeperState) : Type 0 where
  pub saved : new.saved ≡ old.saved
  pub torn : new.torn ≡ Some state
  pub failed : new.failed ≡ true
  pub fitted : IsStoreFull old.room state → ⊥
  pub room : new.room ≡ old.room

-- The result of a save, and the keeper after it. A failed keeper saves nothing, and only a device fault makes it fail.
-- A full store is reported before memory runs out (own).
abbrev pub Saves : KeeperState → PrState → Result Unit KeeperError → KeeperState → Type 0
Saves old state (Ok done) new = (old.failed ≡ false) × Stored old state new
Saves old state (Err NoMemory) new = (old.failed ≡ false) × (IsStoreFull old.room state → ⊥) × (new ≡ old)
Saves old state (Err SideFull) new = (old.failed ≡ false) × IsStoreFull old.room state × (new ≡ old)
Saves old state (Err Device) new = (old.failed ≡ false) × Broken old state new
Saves old state (Err Failed) new = (old.failed ≡ true) × (new ≡ old)

-- the states that a save may have stored, at a device fault too (own)
abbrev pub saved_by : Result Unit KeeperError → PrState → List PrState
saved_by (Ok done) state = state ∷ []
saved_by (Err Device) state = state ∷ []
saved_by (Err _) state = []

-- the device failed in the save (own)
abbrev pub save_met_fault : Result Unit KeeperError → Bool
save_met_fault (Err Device) = true
save_met_fault _ = false

-- a keeper that saves nothing and never fails (own)
abbrev pub nothing_kept : KeeperState
nothing_kept = record { saved = None; torn = None; failed = false; room = None }

-- below a keeper that saves nothing, nothing fails and every state is accepted (own)
abbrev pub nothing_below : {K : Type 0} → Below K PrState
nothing_below {K} = record {
  failures = λ keeper. 0;
  honest = λ keeper. Unit {0};
  at_hand = λ keeper. Unit {0};
  moves = λ old saved new. Unit {0};
  left_alone = λ old new. Unit {0};
}
