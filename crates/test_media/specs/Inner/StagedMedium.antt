-- A medium for tests inside, and its steps.
use Rattle.std.specs.Prelude.{◌≡◌, ◌⊎◌, ◌≤◌, ◌+◌, ◌-◌, ◌++◌, ℕ, List, [], ◌∷◌, Result, Ok, Err, Bool, true, false, IsTrue, length, drop, sum_by}
use Rattle.vtl_base.specs.declared.faults.NoMemory.{NoMemory}
use Rattle.volume_core.specs.declared.changes.Change.{Change}
use Rattle.volume_core.specs.declared.media.MediumError.{MediumError}
use Rattle.volume_core.specs.declared.media.MediumError.TheVariants.{Device}
use Rattle.volume_core.specs.Volume.{Part, are_capacities, empty_volume}
use Rattle.volume_core.specs.Medium.{frame_size}
use Rattle.volume_core.specs.Plain.{MovesByChanges}
use Rattle.test_media.specs.StagedMedium.{Staged}

-- The log is stored up to a number, and leads from the empty volume to the one that is seen. What is left of the room
-- once all of it is stored is free. One that has failed is awake (own).
pub record IsStaged (capacities : List ℕ) (log : List Change) (stored room free : ℕ) (seen : List Part)
    (awake failed : Bool) : Type 0 where
  pub capacities_fit : IsTrue (are_capacities capacities)
  pub within : stored ≤ length log
  pub room_is : room ≡ free + sum_by frame_size (drop stored log)
  pub seen_is : MovesByChanges (empty_volume capacities) log seen
  pub parked_works : awake ≡ false → failed ≡ false

-- one more change is pending (own)
abbrev pub with_pending : Change → Staged → Staged
with_pending change old = record old { rest = old.rest ++ change ∷ [] }

-- all that is pending is stored (own)
abbrev pub all_stored : Staged → Staged
all_stored old =
    record old {
      stored = old.stored ++ old.rest;
      rest = [];
      room = old.room - sum_by frame_size old.rest;
      is_torn = false;
    }

-- the device failed, and the frame of all that is pending was in flight, or no frame (own)
abbrev pub broken : Bool → Staged → Staged
broken torn old = record old { failed = true; is_torn = torn; faults = old.faults + 1 }

-- closed, with what is left of it given up (own)
abbrev pub closed : Staged → Staged
closed old = record old { awake = false; failed = false }

-- opened without what was given up (own)
abbrev pub opened : Staged → Staged
opened old = record old { rest = []; awake = true; failed = false; is_torn = false }

-- what is pending is asked to be stored; the device may fail where there is some (own)
abbrev pub IsStoring : Staged → Result Unit MediumError → Staged → Type 0
IsStoring old (Ok done) new = new ≡ all_stored old
IsStoring old (Err Device) new = (1 ≤ length old.rest) × ((torn : Bool) × (new ≡ broken torn old))
IsStoring old (Err _) new = ⊥

-- it is opened by what its side gives: all that is stored, or the frame that was in flight as well (own)
abbrev pub IsOpening : Staged → Result Unit NoMemory → Staged → Type 0
IsOpening old (Ok done) new =
    (new ≡ opened old) ⊎ ((old.is_torn ≡ true) × (new ≡ opened (all_stored old)))
IsOpening old (Err _) new = new ≡ old
