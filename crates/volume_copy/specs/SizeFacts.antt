-- The number of bytes and of records in a copy.
use Rattle.std.specs.Prelude.{◌≤◌, ◌+◌, ◌*◌, ℕ, zero, suc, List, [], ◌∷◌, drop, length, map, sum_by, nat_le}
use Rattle.std.specs.List.{All}
use Rattle.std.proofs.Common.{arith, length-append}
use Rattle.std.proofs.lemmas.Bool.{and_parts, leb-true}
use Rattle.std.proofs.lemmas.List.{length-map, length-replicate}
use Rattle.std.proofs.lemmas.List.Elements.{All-append, All-cons, All-head, All-nil, All-tail}
use Rattle.std.proofs.lemmas.List.Sums.{sum_by-append, sum_by-cons}
use Rattle.vtl_base.specs.declared.limits.TheConstants.{MAX_CAPACITY, MAX_OBJECTS, MAX_PARTITIONS, MIN_CAPACITY}
use Rattle.volume_core.specs.declared.objects.Object.TheVariants as Objects
use Rattle.volume_core.specs.Volume.{IsObject, IsPart, IsVolume, cost_of, used_of}
use Rattle.object_index.specs.declared.places.Placed.{Placed}
use Rattle.object_index.specs.declared.places.Placed.TheVariants.{Block, Mark}
use Rattle.object_index.specs.Places.{PlacedPart, blank, filled, filled_part, outline, placed_objects}
use Rattle.volume_copy.specs.declared.entries.Entry.{Entry}
use Rattle.vtl_base.specs.declared.limits.TheConstants.{COPY_BODY}
use Rattle.volume_copy.specs.Entries.{block_entry, entries_from, entries_in, entry_size, marks_entries, object_entries, part_entries}

-- the record of an entry has at least one byte, and fits a frame (own)
abbrev pub FitsFrame : Entry → Type 0
FitsFrame entry = (1 ≤ entry_size entry) × (entry_size entry ≤ COPY_BODY)

marks_fit : (part first marks : ℕ) → All FitsFrame (marks_entries part first marks)
marks_fit part first zero = All-nil FitsFrame
marks_fit part first (suc count) =
    All-cons FitsFrame _ [] (omega arith, omega arith) (All-nil FitsFrame)

-- a block of an index whose outline is within the limits
block_fits : (part at place size : ℕ) → IsObject (filled blank (Block place size))
    → FitsFrame (block_entry part at place size)
block_fits part at place size is = (omega arith, omega (arith, is.1, length-replicate {A = ℕ} size 0))

objects_fit : (part first marks : ℕ) (objects : List Placed) → All IsObject (map (filled blank) objects)
    → All FitsFrame (object_entries part first marks objects)
objects_fit part first marks [] each = marks_fit part first marks
objects_fit part first marks (Mark ∷ objects) each =
    objects_fit part first (suc marks) objects
    (All-tail IsObject Objects.Mark (map (filled blank) objects) each)
objects_fit part first marks (Block place size ∷ objects) each =
    let block = filled blank (Block place size) in
    All-append FitsFrame (marks_entries part first marks) _ (marks_fit part first marks)
    (All-cons FitsFrame (block_entry part (first + marks) place size) _
    (block_fits part (first + marks) place size (All-head IsObject block (map (filled blank) objects) each))
    (objects_fit part (first + marks + 1) 0 objects (All-tail IsObject block (map (filled blank) objects) each)))

parts_fit : (number : ℕ) (parts : List PlacedPart) → All IsPart (outline parts)
    → All FitsFrame (part_entries number parts)
parts_fit number [] each = All-nil FitsFrame
parts_fit number (part ∷ parts) each =
    All-append FitsFrame (object_entries number 0 0 part.objects) (part_entries (suc number) parts)
    (objects_fit number 0 0 part.objects
    (All-head IsPart (filled_part blank part) (outline parts) each).well_formed)
    (parts_fit (suc number) parts (All-tail IsPart (filled_part blank part) (outline parts) each))

-- each record of a copy has at least one byte, and fits a frame
pub entries_fit : (parts : List PlacedPart) → IsVolume (outline parts) → All FitsFrame (entries_in parts)
entries_fit parts is = parts_fit 0 parts is.each

fit_drop : (n : ℕ) (objects : List Placed) → All IsObject (map (filled blank) objects)
    → All IsObject (map (filled blank) (drop n objects))
fit_drop zero objects each = each
fit_drop (suc n) [] each = each
fit_drop (suc n) (object ∷ objects) each =
    fit_drop n objects (All-tail IsObject (filled blank object) (map (filled blank) objects) each)

parts_drop : (n : ℕ) (parts : List PlacedPart) → All IsPart (outline parts) → All IsPart (outline (drop n parts))
parts_drop zero parts each = each
parts_drop (suc n) [] each = each
parts_drop (suc n) (part ∷ parts) each =
    parts_drop n parts (All-tail IsPart (filled_part blank part) (outline parts) each)

fit_there : (n : ℕ) (parts : List PlacedPart) → All IsPart (outline parts)
    → All IsObject (map (filled blank) (placed_objects parts n))
fit_there zero [] each = All-nil IsObject
fit_there (suc n) [] each = All-nil IsObject
fit_there zero (part ∷ parts) each = (All-head IsPart (filled_part blank part) (outline parts) each).well_formed
fit_there (suc n) (part ∷ parts) each =
    fit_there n parts (All-tail IsPart (filled_part blank part) (outline parts) each)

-- the same for the records from an object on
pub entries_from_fit : (parts : List PlacedPart) (part at : ℕ) → IsVolume (outline parts)
    → All FitsFrame (entries_from parts part at)
entries_from_fit parts part at is =
    All-append FitsFrame (object_entries part at 0 (drop at (placed_objects parts part)))
    (part_entries (suc part) (drop (suc part) parts))
    (objects_fit part at 0 (drop at (placed_objects parts part))
    (fit_drop at (placed_objects parts part) (fit_there part parts is.each)))
    (parts_fit (suc part) (drop (suc part) parts) (parts_drop (suc part) parts is.each))

marks_take : (part first marks : ℕ) → sum_by entry_size (marks_entries part first marks) ≤ 16 * marks
marks_take part first zero = omega arith
marks_take part first (suc count) = omega arith

objects_take : (part first marks : ℕ) (objects : List Placed)
    → sum_by entry_size (object_entries part first marks objects)
    ≤ 16 * marks + used_of (map (filled blank) objects)
objects_take part first marks [] = omega (arith, marks_take part first marks)
objects_take part first marks (Mark ∷ objects) =
    omega (
      arith,
      objects_take part first (suc marks) objects,
      sum_by-cons cost_of Objects.Mark (map (filled blank) objects),
    )
objects_take part first marks (Block place size ∷ objects) =
    let rest = object_entries part (first + marks + 1) 0 objects in
    let block = block_entry part (first + marks) place size in
    omega (
      arith,
      marks_take part first marks,
      sum_by-append entry_size (marks_entries part first marks) (block ∷ rest),
      sum_by-cons entry_size block rest,
      objects_take part (first + marks + 1) 0 objects,
      sum_by-cons cost_of (filled blank (Block place size)) (map (filled blank) objects),
      length-replicate {A = ℕ} size 0,
    )

parts_take : (number : ℕ) (parts : List PlacedPart) → All IsPart (outline parts)
    → sum_by entry_size (part_entries number parts) ≤ MAX_CAPACITY * length parts
parts_take number [] each = omega arith
parts_take number (part ∷ parts) each =
    let one = All-head IsPart (filled_part blank part) (outline parts) each in
    let bound = leb-true part.capacity MAX_CAPACITY
    (and_parts (nat_le MIN_CAPACITY part.capacity) (nat_le part.capacity MAX_CAPACITY) one.capacity_fits).1 in
    omega (
      arith,
      sum_by-append entry_size (object_entries number 0 0 part.objects) (part_entries (suc number) parts),
      objects_take number 0 0 part.objects,
      one.fits,
      bound,
      parts_take (suc number) parts (All-tail IsPart (filled_part blank part) (outline parts) each),
    )

-- the records of a copy have at most the bytes of four partitions
pub entries_take : (parts : List PlacedPart) → IsVolume (outline parts)
    → sum_by entry_size (entries_in parts) ≤ MAX_CAPACITY * MAX_PARTITIONS
entries_take parts is =
    omega (arith, parts_take 0 parts is.each, is.few, length-map parts (filled_part blank))

objects_count : (part first marks : ℕ) (objects : List Placed)
    → length (object_entries part first marks objects) ≤ marks + length objects
objects_count part first zero [] = omega arith
objects_count part first (suc count) [] = omega arith
objects_count part first marks (Mark ∷ objects) = omega (arith, objects_count part first (suc marks) objects)
objects_count part first zero (Block place size ∷ objects) =
    omega (arith, objects_count part (first + 0 + 1) 0 objects)
objects_count part first (suc count) (Block place size ∷ objects) =
    omega (arith, objects_count part (first + suc count + 1) 0 objects)

parts_count : (number : ℕ) (parts : List PlacedPart) → All IsPart (outline parts)
    → length (part_entries number parts) ≤ MAX_OBJECTS * length parts
parts_count number [] each = omega arith
parts_count number (part ∷ parts) each =
    let one = All-head IsPart (filled_part blank part) (outline parts) each in
    omega (
      arith,
      length-append (object_entries number 0 0 part.objects) (part_entries (suc number) parts),
      objects_count number 0 0 part.objects,
      one.few,
      length-map part.objects (filled blank),
      parts_count (suc number) parts (All-tail IsPart (filled_part blank part) (outline parts) each),
    )

-- a copy has at most as many records as four partitions have objects
pub entries_few : (parts : List PlacedPart) → IsVolume (outline parts)
    → length (entries_in parts) ≤ MAX_OBJECTS * MAX_PARTITIONS
entries_few parts is =
    omega (arith, parts_count 0 parts is.each, is.few, length-map parts (filled_part blank))
