-- A change is entered into the catalog.
use Rattle.std.proofs.Common.{◌≡◌, ◌≤◌, ◌<◌, ◌+◌, ℕ, List, [], ◌∷◌, length, None, Some, refl, sym, ◌∙◌, ap, arith}
use Rattle.std.specs.Prelude.{Bool, true, false, ◌==◌, if◌then◌else◌, slice_get, sum_by}
use Rattle.std.proofs.lemmas.List.{length-map}
use Rattle.std.proofs.lemmas.List.Sums.{sum_by-cons}
use Rattle.volume_core.specs.declared.changes.Change.{Change}
use Rattle.volume_core.specs.declared.changes.Change.TheVariants.{Put, Marks, Erase}
use Rattle.volume_core.specs.declared.changes.Refusal.{Refusal}
use Rattle.volume_core.specs.Volume.{Part, changed, part_of, refusal_of}
use Rattle.change_records.specs.declared.records.Record.{Record}
use Rattle.change_records.specs.Records.{IsRecord, record_of}
use Rattle.change_records.specs.Records.{outlined, record_part}
use Rattle.object_index.specs.Places.{PlacedPart, blank, filled_part, outline, placed_after, reserved_of, runs_of}
use Rattle.object_index.specs.Shapes.{IsIndexOf, shape_of_part}
use Rattle.cartridge.specs.Answers.{entries_of}
use Rattle.cartridge.specs.Inner.Growing.{TakesEntries}
use Rattle.cartridge.proofs.PlacingLemmas.{takes_next}
use Rattle.cartridge.proofs.RecordLemmas.{applying, same_length}
use Rattle.cartridge.proofs.WalkingLemmas.{refused_alike}
use Rattle.cartridge.specs.Shown.{MayEnter}

-- an index has as many partitions as the volume that it shows
pub as_many_parts : (parts : List PlacedPart) (volume : List Part) → IsIndexOf parts volume
    → length parts ≡ length volume
as_many_parts parts volume is =
    omega (
      arith,
      ap (λ (v : List Part). length v) is,
      length-map parts (filled_part blank),
      length-map volume shape_of_part,
    )

-- a change puts one block or run of marks at most
at_most_one : (same : Bool) → (if same then 1 else 0) ≤ 1
at_most_one true = omega arith
at_most_one false = omega arith

entry_of : (part : ℕ) (change : Change) → entries_of part change ≤ 1
entry_of part (Put p at block) = at_most_one (part == p)
entry_of part (Marks p at count) = at_most_one (part == p)
entry_of part (Erase p at) = omega arith

one_entry : (part : ℕ) (change : Change) → sum_by (entries_of part) (change ∷ []) ≤ 1
one_entry part change = omega (arith, sum_by-cons (entries_of part) change [], entry_of part change)

same_part : (change : Change) → record_part (record_of change) ≡ part_of change
same_part (Put part at block) = refl
same_part (Marks part at count) = refl
same_part (Erase part at) = refl

one_run : (change : Change) → runs_of (record_of change) ≤ 1
one_run (Put part at block) = omega arith
one_run (Marks part at count) = omega arith
one_run (Erase part at) = omega arith

-- a change that is not refused has a spelling
pub is_record : (parts : List PlacedPart) (volume : List Part) (change : Change) → IsIndexOf parts volume
    → refusal_of volume change ≡ None → (count : ℕ) → count ≡ length parts → count ≤ 4 → IsRecord change
is_record parts volume change shows none count is few =
    applying volume change (omega (arith, is, few, as_many_parts parts volume shows)) none

module _ (parts : List PlacedPart) (volume : List Part) (change : Change) (may : MayEnter parts volume change) where
  -- the index does not refuse it
  pub never_refused : (item : Record) (cause : Refusal) → item ≡ record_of change
      → refusal_of (outline parts) (outlined item) ≡ Some cause → ⊥
  never_refused item cause is refused =
      let never : Some cause ≡ None =
      sym refused ∙ refused_alike parts volume change item may.shows (sym is) ∙ may.none in
      absurd (cc)

  -- there is room for it
  pub has_room : (item : Record) → item ≡ record_of change → reserved_of parts (record_part item) < runs_of item → ⊥
  has_room item is lacks =
      omega (
        arith,
        lacks,
        ap runs_of is,
        one_run change,
        ap (λ (r : Record). reserved_of parts (record_part r)) is,
        ap (reserved_of parts) (same_part change),
        may.roomy,
      )

  module _ (new : List PlacedPart) (item : Record) (reserved : ℕ) (is : item ≡ record_of change)
      (entered : new ≡ placed_after parts item 0 reserved) where
    -- as many partitions are shown
    pub as_many_still : IsIndexOf new (changed volume change) → length new ≡ length parts
    as_many_still shows =
        omega (
          arith,
          as_many_parts new (changed volume change) shows,
          as_many_parts parts volume may.shows,
          same_length (slice_get volume (part_of change)) volume change,
        )

    -- and one run at most is taken in each
    pub takes_one : reserved_of parts (record_part item) ≤ reserved_of new (record_part item) + runs_of item
        → (part : ℕ) → reserved_of parts part ≤ reserved_of new part + 1
    takes_one here part =
        let takes : TakesEntries parts (change ∷ []) new =
        takes_next parts parts new (change ∷ []) 0 change item 0 reserved (omega arith) refl (sym is)
        (λ p. omega arith) entered here in
        omega (arith, takes part, one_entry part change)
