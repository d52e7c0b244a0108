-- A medium for tests: its volume, and what its steps do.
use Rattle.std.proofs.Common.{◌≡◌, ◌≤◌, ◌+◌, ◌-◌, ◌++◌, ℕ, zero, suc, None, Some, Result, Ok, Err, List, [], ◌∷◌, Bool, true, false, if◌then◌else◌, length, take, drop, sum_by, refl, sym, ap, ◌∙◌, inl, inr, subst, arith, rules}
use Rattle.std.proofs.Math.Seq.{take-length, drop-length}
use Rattle.std.proofs.lemmas.List.{append-nil, drop-append-le, take-append-drop, length-append, length-take-le, drop_all}
use Rattle.std.proofs.lemmas.List.Sums.{sum_by-append}
use Rattle.volume_core.specs.declared.changes.Change.{Change}
use Rattle.volume_core.specs.declared.media.MediumError.{MediumError}
use Rattle.volume_core.specs.declared.media.MediumError.TheVariants.{Refused, NoMemory, SideFull, Device, Failed, Unreadable}
use Rattle.volume_core.specs.Volume.{Part, AllApply, after, changed, empty_volume, refusal_of}
use Rattle.volume_core.specs.Medium.{Fits, IsFresh, IsParkedFrom, MediumState, Opens, Settles, Wakes, WakesFrom, Works, frame_size, volume_of}
use Rattle.volume_core.specs.Plain.{moves_on_by_changes}
use Rattle.volume_core.specs.Stores.{Stores, after_append}
use Rattle.test_media.specs.StagedMedium.{Staged, staged_state}
use Rattle.test_media.specs.Inner.StagedMedium.{IsStaged, IsStoring, all_stored, broken, closed, opened, with_pending}

-- a log leads to one volume, wherever it is parted
pub after_parted : (volume : List Part) (log : List Change) (n : ℕ)
    → after volume log ≡ after (after volume (take n log)) (drop n log)
after_parted volume log n =
    ap (after volume) (sym (take-append-drop n log)) ∙ after_append volume (take n log) (drop n log)

-- what is seen of one that is awake is its whole log
pub seen_awake : (volume seen : List Part) (log : List Change) (n : ℕ) (awake : Bool)
    → awake ≡ true → seen ≡ after volume log
    → seen ≡ after (after volume (take n log)) (if awake then drop n log else [])
seen_awake volume seen log n true is_awake same = same ∙ after_parted volume log n
seen_awake volume seen log n false is_awake same = search rules

-- a fault is counted once
pub broken_is : (old : Staged) (torn : Bool) (faults : ℕ) → faults ≡ old.faults + 1
    → record old { failed = true; is_torn = torn; faults = faults } ≡ broken torn old
broken_is old torn faults same =
    ap (λ (n : ℕ). record old { failed = true; is_torn = torn; faults = n }) same

-- the first of changes that all apply do
pub all_apply_take : (volume : List Part) (log : List Change) (n : ℕ)
    → AllApply volume log → AllApply volume (take n log)
all_apply_take volume log zero all = tt
all_apply_take volume [] (suc n) all = tt
all_apply_take volume (change ∷ log) (suc n) all = (all.0, all_apply_take (changed volume change) log n all.1)

-- one change more is pending
pub staged_with : (capacities : List ℕ) (log : List Change) (stored room free : ℕ)
    (seen new : List Part) (awake failed : Bool)
    (change : Change)
    → IsStaged capacities log stored room free seen awake failed
    → refusal_of seen change ≡ None → new ≡ changed seen change → frame_size change ≤ free
    → IsStaged capacities (log ++ change ∷ []) stored room (free - frame_size change) new awake failed
staged_with capacities log stored room free seen new awake failed change old applies leads fits =
    let rest : drop stored (log ++ change ∷ []) ≡ drop stored log ++ change ∷ [] =
    drop-append-le stored log (change ∷ []) old.within in
    record {
      capacities_fit = old.capacities_fit;
      within = omega (arith, old.within, length-append log (change ∷ []));
      room_is =
          omega (
            arith,
            fits,
            old.room_is,
            ap (sum_by frame_size) rest,
            sum_by-append frame_size (drop stored log) (change ∷ []),
          );
      seen_is =
          moves_on_by_changes (empty_volume capacities) seen new log (change ∷ []) old.seen_is ((applies, tt), leads);
      parked_works = old.parked_works;
    }

-- what one that is awake is seen as, once all is stored
volume_all_stored : (old : Staged) → old.awake ≡ true
    → volume_of (staged_state (all_stored old)) ≡ volume_of (staged_state old)
volume_all_stored old awake = rw awake (after_append (empty_volume old.capacities) old.stored old.rest)

-- a change that is pending is carried out in what is seen
pub works_with : (old new : Staged) (change : Change)
    → old.awake ≡ true → old.failed ≡ false → new ≡ with_pending change old
    → Works (changed (volume_of (staged_state old)) change) (staged_state new)
works_with old new change awake works same =
    rw same
    (record {
      volume_is = rw awake (after_append (after (empty_volume old.capacities) old.stored) old.rest (change ∷ []));
      works = works;
      awake = awake;
    })

-- a change that has room beside what is pending fits
pub fits_with : (old : Staged) (change : Change) → old.awake ≡ true
    → sum_by frame_size old.rest + frame_size change ≤ old.room
    → Fits (staged_state old).room ((staged_state old).pending ++ change ∷ [])
fits_with old change awake room =
    rw awake (omega (arith, room, sum_by-append frame_size old.rest (change ∷ [])))

pub settles_by : (old new : Staged) (result : Result Unit MediumError) → old.awake ≡ true → old.failed ≡ false
    → IsStoring old result new → Settles (staged_state old) result (staged_state new)
settles_by old new (Ok done) awake works storing =
    rw storing
    (works, rw awake refl, record { volume_is = volume_all_stored old awake; works = works; awake = awake })
settles_by old new (Err Device) awake works storing = search rules
settles_by old new (Err (Refused cause)) awake works storing = absurd storing
settles_by old new (Err NoMemory) awake works storing = absurd storing
settles_by old new (Err SideFull) awake works storing = absurd storing
settles_by old new (Err Failed) awake works storing = absurd storing
settles_by old new (Err Unreadable) awake works storing = absurd storing

pub stores_by : (old new : Staged) (result : Result Unit MediumError) → old.awake ≡ true
    → IsStoring old result new → Stores (staged_state old) [] (staged_state new)
stores_by old new (Ok done) awake storing =
    let all : old.rest ++ [] ≡ old.rest = append-nil old.rest in
    rw (storing, awake)
    (record {
      count = length old.rest;
      fits = omega (arith, ap length all);
      stored =
          ap Some
          (after_append (empty_volume old.capacities) old.stored old.rest
          ∙ ap (after (after (empty_volume old.capacities) old.stored))
          (sym (take-length old.rest) ∙ ap (λ (l : List Change). take (length old.rest) l) (sym all)));
      pending =
          sym (drop-length old.rest) ∙ ap (λ (l : List Change). drop (length old.rest) l) (sym all);
      room =
          let taken : take (length old.rest) (old.rest ++ []) ≡ old.rest =
          ap (λ (l : List Change). take (length old.rest) l) all ∙ take-length old.rest in
          omega (arith, ap (sum_by frame_size) taken);
    })
stores_by old new (Err Device) awake storing = search rules
stores_by old new (Err (Refused cause)) awake storing = absurd storing
stores_by old new (Err NoMemory) awake storing = absurd storing
stores_by old new (Err SideFull) awake storing = absurd storing
stores_by old new (Err Failed) awake storing = absurd storing
stores_by old new (Err Unreadable) awake storing = absurd storing

-- what is not stored is given up
pub staged_without : (capacities : List ℕ) (log : List Change) (stored room free : ℕ)
    (seen new : List Part) (awake failed : Bool)
    → IsStaged capacities log stored room free seen awake failed
    → new ≡ after (empty_volume capacities) (take stored log)
    → IsStaged capacities (take stored log) stored room room new awake failed
staged_without capacities log stored room free seen new awake failed old leads =
    let len : length (take stored log) ≡ stored = length-take-le stored log old.within in
    record {
      capacities_fit = old.capacities_fit;
      within = omega (arith, len);
      room_is = omega (arith, ap (sum_by frame_size) (drop_all stored (take stored log) (omega (arith, len))));
      seen_is = (all_apply_take (empty_volume capacities) log stored old.seen_is.0, leads);
      parked_works = old.parked_works;
    }

-- one that has failed gives up what is pending
pub parks_failed : (old : Staged) → old.failed ≡ true
    → IsParkedFrom (Unit {0}) old.failed (staged_state old) (staged_state (closed old))
parks_failed old failed =
    rw failed
    (record {
      parked = refl;
      works = refl;
      nothing_pending = refl;
      unread_is = refl;
      gives = λ honest. (refl, refl);
      room_is = λ honest. omega arith;
    })

-- one that works has stored all
pub parks_stored : (old : Staged) → old.awake ≡ true → old.failed ≡ false
    → IsParkedFrom (Unit {0}) old.failed (staged_state old) (staged_state (closed (all_stored old)))
parks_stored old awake works =
    rw (works, awake)
    (record {
      parked = refl;
      works = refl;
      nothing_pending = refl;
      unread_is = refl;
      gives = λ honest. (ap Some (after_append (empty_volume old.capacities) old.stored old.rest), refl);
      room_is = λ honest. omega arith;
    })

-- one that was parked is opened without what was given up
pub opens_without : (old : Staged)
    → IsFresh (staged_state (opened old)) × Opens (staged_state old) (staged_state (opened old))
opens_without old = (
  record { awake = refl; works = refl; nothing_pending = refl; read = refl },
  record { volume = inl refl; first = λ unread. cc; readable = λ none. search rules; room_is = omega arith },
)

-- or with the frame that was in flight
pub opens_with : (old : Staged) → old.is_torn ≡ true
    → IsFresh (staged_state (opened (all_stored old)))
    × Opens (staged_state old) (staged_state (opened (all_stored old)))
opens_with old torn = (
  record { awake = refl; works = refl; nothing_pending = refl; read = refl },
  record {
    first = λ unread. cc;
    volume = rw torn (inr (ap Some (after_append (empty_volume old.capacities) old.stored old.rest)));
    readable = λ none. search rules;
    room_is = rw torn (omega arith);
  },
)

-- a parked one is woken where it is opened
pub wakes_parked : (honest : Type 0) (old new : MediumState) → old.awake ≡ false → IsFresh new × Opens old new
    → Wakes honest old (Ok tt) new
wakes_parked honest old new parked opens =
    subst (λ (awake : Bool). WakesFrom honest awake old (Ok tt) new) (sym parked) (opens.0, λ _. opens.1)
