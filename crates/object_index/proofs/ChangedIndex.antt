-- An index with one changed partition.
use Rattle.std.proofs.Common.{◌≡◌, ◌<◌, ℕ, List, ◌++◌, length, take, refl, sym, ◌∙◌, ap, subst, arith, None, Some}
use Rattle.std.specs.Prelude.{slice_get, slice_set, Option}
use Rattle.std.specs.Option.{option_map}
use Rattle.std.proofs.lemmas.List.{length-map, length-set, map-set}
use Rattle.std.proofs.lemmas.List.Elements.{All-set}
use Rattle.std.proofs.lemmas.Option.{slice_get-map, slice_get_within}
use Rattle.volume_core.specs.declared.changes.Change.{Change}
use Rattle.volume_core.specs.Volume.{IsPart, IsVolume, Part, part_of, refusal_in, refusal_of}
use Rattle.object_index.specs.declared.places.Placed.{Placed}
use Rattle.change_records.specs.declared.records.Record.{Record}
use Rattle.change_records.specs.Records as records
use Rattle.change_records.specs.Records.{outlined}
use Rattle.object_index.specs.Places.{PlacedPart, blank, filled_part, outline, placed_after, placed_by, placed_objects, placed_objects_in, reserved_in, reserved_of, with_objects, with_objects_in}
use Rattle.object_index.specs.Facts.{target_filled}
use Rattle.object_index.proofs.Rows.{set_here, slice_get_set}

-- the volume of an index with one changed partition
pub limits_set : (parts : List PlacedPart) (number : ℕ) (new : PlacedPart) → IsVolume (outline parts)
    → IsPart (filled_part blank new) → IsVolume (outline (slice_set parts number new))
limits_set parts number new limits here =
    subst IsVolume (sym (map-set (filled_part blank) parts number new)) (record {
      some = omega (arith, limits.some, length-set (outline parts) number (filled_part blank new));
      few = omega (arith, limits.few, length-set (outline parts) number (filled_part blank new));
      each = All-set IsPart (outline parts) number (filled_part blank new) here limits.each;
    })

module _ (parts : List PlacedPart) (number : ℕ) (old new : PlacedPart) (here : slice_get parts number ≡ Some old) where
  pub objects_here : placed_objects parts number ≡ old.objects
  objects_here = ap placed_objects_in here

  pub reserved_here : reserved_of parts number ≡ old.reserved
  reserved_here = ap reserved_in here

  pub reserved_set : reserved_of (slice_set parts number new) number ≡ new.reserved
  reserved_set = ap reserved_in (slice_get_set parts number new (slice_get_within parts number old here))

  -- an index whose partition is replaced
  pub set_is : (objects : List Placed)
      → new ≡ record { capacity = old.capacity; objects = objects; reserved = new.reserved }
      → slice_set parts number new
      ≡ with_objects parts number objects (reserved_of (slice_set parts number new) number)
  set_is objects same =
      ap (slice_set parts number) same
      ∙ (λ i. slice_set parts number
      (record { capacity = old.capacity; objects = objects; reserved = sym reserved_set i }))
      ∙ ap (λ (o : Option PlacedPart). with_objects_in o parts number objects
      (reserved_of (slice_set parts number new) number)) (sym here)

  -- the objects that were there
  pub set_by : (f : List Placed → List Placed)
      → new ≡ record { capacity = old.capacity; objects = f old.objects; reserved = new.reserved }
      → slice_set parts number new
      ≡ with_objects parts number (f (placed_objects parts number)) (reserved_of (slice_set parts number new) number)
  set_by f same =
      set_is (f old.objects) same
      ∙ ap (λ (l : List Placed). with_objects parts number (f l) (reserved_of (slice_set parts number new) number))
      (sym objects_here)

  pub set_same : new ≡ old → slice_set parts number new ≡ parts
  set_same same = ap (slice_set parts number) same ∙ set_here parts number old here

-- a partition refuses what the index refuses, and the index changes where it does
module _ (parts : List PlacedPart) (item : Record) (place : ℕ) (old new : PlacedPart)
    (here : slice_get parts (records.record_part item) ≡ Some old) where
  pub refusal_here : refusal_of (outline parts) (outlined item)
      ≡ refusal_in (Some (filled_part blank old)) (outlined item)
  refusal_here =
      (λ i. refusal_in (slice_get (outline parts) (target_filled blank item 0 i)) (outlined item))
      ∙ ap (λ (p : Option Part). refusal_in p (outlined item))
      (slice_get-map (filled_part blank) parts (records.record_part item) ∙ ap (option_map (filled_part blank)) here)

  pub after_here : new ≡ record {
    capacity = old.capacity;
    objects = take (records.record_staying item) old.objects ++ placed_by item place;
    reserved = new.reserved;
  }
      → slice_set parts (records.record_part item) new
      ≡ placed_after parts item place
      (reserved_of (slice_set parts (records.record_part item) new) (records.record_part item))
  after_here same =
      set_is parts (records.record_part item) old new here
      (take (records.record_staying item) old.objects ++ placed_by item place) same
      ∙ ap (λ (l : List Placed). with_objects parts (records.record_part item)
      (take (records.record_staying item) l ++ placed_by item place)
      (reserved_of (slice_set parts (records.record_part item) new) (records.record_part item)))
      (sym (objects_here parts (records.record_part item) old new here))

-- a record that is not refused is one of a partition that is there
pub inside_of : (parts : List PlacedPart) (item : Record) → refusal_of (outline parts) (outlined item) ≡ None
    → records.record_part item < length parts
inside_of parts item none =
    let found = there (slice_get (outline parts) (part_of (outlined item))) (outlined item) none in
    omega (
      arith,
      slice_get_within (outline parts) (part_of (outlined item)) found.0 found.1,
      target_filled blank item 0,
      length-map parts (filled_part blank),
    )
  where
    there : (found : Option Part) (change : Change) → refusal_in found change ≡ None
        → (part : Part) × (found ≡ Some part)
    there None change none = absurd (cc)
    there (Some part) change none = (part, refl)
