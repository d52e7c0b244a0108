-- What a medium accepts while its disks are away.
use Rattle.std.proofs.Common.{◌≡◌, ◌≤◌, ◌<◌, ◌+◌, ◌++◌, ℕ, List, [], ◌∷◌, length, true, false, Bool, Option, None, Some, Ok, refl, arith, length-append}
use Rattle.std.proofs.lemmas.Bool.{and_parts, leb-true, ltb-true}
use Rattle.std.proofs.lemmas.List.Sums.{sum_by-append}
use Rattle.volume_core.specs.declared.changes.Change.{Change}
use Rattle.volume_core.specs.Medium.{Accepts, Fits, LeavesRoom, MediumState, block_bytes, frame_size, volume_of, volume_or_empty}
use Rattle.volume_core.specs.Stores.{Stores, after_append, stored_after}
use Rattle.volume_core.specs.Volume.{Part, changed, part_of, refusal_of}
use Rattle.object_index.specs.Places.{PlacedPart, reserved_of}
use Rattle.object_index.specs.Shapes.{IsIndexOf}
use Rattle.cartridge.specs.Shown.{MayEnter}
use Rattle.tape_buffer.specs.declared.aways.Away.{Away}
use Rattle.tape_buffer.specs.declared.budgets.Budget.{Budget}
use Rattle.tape_buffer.specs.Aways.{IsRoomFor, KnowsAway, loose_in, seen_as, seen_with, takes_loose, takes_one}
use Rattle.tape_buffer.specs.Budgets.{KeepsBudget}
use Rattle.tape_buffer.specs.Frames.{AcceptsInFrames}
use Rattle.tape_buffer.specs.Limits.{FitsBuffer, frame_of}
use Rattle.tape_buffer.proofs.VolumeLemmas.{inside_of}
use Rattle.tape_buffer.proofs.IndexLemmas.{as_many_parts}

-- what it means that one change more is taken
pub record Takes (left : Budget) (bytes : ℕ) : Type 0 where
  pub few : 1 ≤ left.records
  pub short : bytes ≤ left.bytes
  pub fits : 15 + bytes ≤ left.room

takes : (left : Budget) (bytes : ℕ) → takes_one left bytes ≡ true → Takes left bytes
takes left bytes is =
    let parts = and_parts _ _ is in
    let more = and_parts _ _ parts.1 in
    record {
      few = omega (arith, ltb-true 0 left.records parts.0);
      short = leb-true bytes left.bytes more.0;
      fits = leb-true (15 + bytes) left.room more.1;
    }

-- what was accepted before was passed on
pub takes_none : (left : Budget) (loose : Option Change) (bytes : ℕ) → takes_loose left (loose_in loose) bytes ≡ true
    → (loose ≡ None) × (takes_one left bytes ≡ true)
takes_none left None bytes is = (refl, is)
takes_none left (Some change) bytes is = absurd (cc)

-- where one change more is taken, nothing waits to be passed on
pub took : (left : Budget) (loose : Option Change) (bytes : ℕ) → takes_loose left (loose_in loose) bytes ≡ true
    → Takes left bytes
took left loose bytes is = takes left bytes (takes_none left loose bytes is).1

-- one change is within the budget
pub keeps_one : (left : Budget) (change : Change) → Takes left (block_bytes change) → KeepsBudget left (change ∷ [])
keeps_one left change takes =
    record {
      records = omega (arith, takes.few);
      bytes = omega (arith, takes.short);
      room = omega (arith, takes.fits, frame_of change);
    }

-- what is seen with one change more
pub seen_more : (seen : MediumState) (change : Change)
    → volume_of (seen_with seen (change ∷ [])) ≡ changed (volume_of seen) change
seen_more seen change = after_append (volume_or_empty seen.stored) seen.pending (change ∷ [])

-- the catalog has room for a change that is not refused
pub may_enter : (parts : List PlacedPart) (seen : MediumState) (records : ℕ) (change : Change)
    → IsIndexOf parts (volume_of seen) → ((part : ℕ) → part < length parts → records ≤ reserved_of parts part)
    → 1 ≤ records → refusal_of (volume_of seen) change ≡ None → MayEnter parts (volume_of seen) change
may_enter parts seen records change shows roomy some none =
    record {
      shows = shows;
      none = none;
      roomy =
          omega (
            arith,
            some,
            roomy (part_of change)
                (omega (
                  arith,
                  inside_of (volume_of seen) change none,
                  as_many_parts parts (volume_of seen) shows,
                )),
          );
    }

-- where something may be accepted, nothing has failed
works_on : (failed : Bool) (records : ℕ) → (failed ≡ true → records ≡ 0) → 1 ≤ records → failed ≡ false
works_on true records none some = absurd (omega (arith, none refl, some))
works_on false records none some = refl

-- it fits the room that was seen
fits_seen : (seen : Option ℕ) (room : ℕ) (pending : List Change) (change : Change) → IsRoomFor seen room pending
    → frame_size change ≤ room → Fits seen (pending ++ change ∷ [])
fits_seen None room pending change is fits = absurd is
fits_seen (Some seen) room pending change is fits =
    omega (arith, is, fits, sum_by-append frame_size pending (change ∷ []))

module _ (parts : List PlacedPart) (away : Away) (change : Change)
    (knows : KnowsAway (Some parts) away) (awake : away.noted.awake ≡ true)
    (takes : Takes away.left (block_bytes change)) where
  pub works : away.noted.failed ≡ false
  works = works_on away.noted.failed away.left.records knows.none takes.few

  -- it is accepted
  pub accepts : refusal_of (volume_of away.noted) change ≡ None
      → Accepts (seen_as away.noted) change (Ok tt) (seen_as (seen_with away.noted (change ∷ [])))
  accepts none = (
    none,
    works,
    record { volume_is = seen_more away.noted change; works = works; awake = awake },
    fits_seen away.noted.room away.left.room away.noted.pending change (knows.room awake)
        (omega (arith, takes.fits, frame_of change)),
  )

  pub fits_more : FitsBuffer (away.noted.pending ++ change ∷ [])
  fits_more =
      record {
        few = omega (arith, knows.few, takes.few, length-append away.noted.pending (change ∷ []));
        short =
            omega (
              arith,
              knows.short takes.few,
              takes.short,
              sum_by-append block_bytes away.noted.pending (change ∷ []),
            );
      }

-- a side that stores nothing gives what it gave, and has the room that it had
stored_still : (stored : Option (List Part)) → stored ≡ stored_after stored []
stored_still None = refl
stored_still (Some volume) = refl

room_still : (room : Option ℕ) → LeavesRoom room [] room
room_still None = refl
room_still (Some room) = omega arith

-- nothing is stored without the disks
pub stores_away : (seen : MediumState) (changes : List Change)
    → Stores (seen_as seen) changes (seen_as (seen_with seen changes))
stores_away seen changes =
    record {
      count = 0;
      fits = omega arith;
      stored = stored_still seen.stored;
      pending = refl;
      room = room_still seen.room;
    }

-- no frame is stored without the disks
pub frames_away : (pending : List Change) (change : Change) → FitsBuffer (pending ++ change ∷ [])
    → AcceptsInFrames change (Ok tt) [] pending [] (pending ++ change ∷ [])
frames_away pending change fits =
    (pending, record { waits = λ fit. (refl, refl); goes = λ past. absurd (past fits) }, refl)
