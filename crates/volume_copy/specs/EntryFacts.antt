-- The entries of a copy from an object of an index on.
use Rattle.std.specs.Prelude.{◌≡◌, ◌≤◌, ◌<◌, ◌+◌, ℕ, zero, suc, List, [], ◌∷◌, ◌++◌, length, drop, replicate, Some, slice_get, refl}
use Rattle.std.proofs.Common.{ap, sym, ◌∙◌, arith}
use Rattle.std.proofs.lemmas.List.{length-map}
use Rattle.std.proofs.lemmas.Option.{slice_get_past}
use Rattle.volume_core.specs.Volume.{count_of}
use Rattle.object_index.specs.declared.places.Placed.{Placed}
use Rattle.object_index.specs.declared.places.Placed.TheVariants.{Block, Mark}
use Rattle.object_index.specs.MarkFacts.{objects_outlined}
use Rattle.object_index.specs.MarkRuns.{HasMarkAt}
use Rattle.object_index.specs.Places.{PlacedPart, blank, filled, outline, placed_objects, placed_objects_in}
use Rattle.volume_copy.specs.declared.entries.Entry.{Entry}
use Rattle.volume_copy.specs.Entries.{block_entry, entries_from, marks_entry, object_entries, part_entries}

-- the object at a place comes first in the rest from there
pub drop_here : (objects : List Placed) (at : ℕ) (object : Placed) → slice_get objects at ≡ Some object
    → drop at objects ≡ object ∷ drop (suc at) objects
drop_here [] at object is = absurd (cc)
drop_here (x ∷ xs) zero object is = (let same : x ≡ object = cc in λ i. same i ∷ xs)
drop_here (x ∷ xs) (suc at) object is = drop_here xs at object is

past_all : (objects : List Placed) (at : ℕ) → length objects ≤ at → drop at objects ≡ []
past_all [] zero past = refl
past_all [] (suc at) past = refl
past_all (x ∷ xs) zero past = absurd (omega arith)
past_all (x ∷ xs) (suc at) past = past_all xs at (omega arith)

-- a block comes first
pub block_first : (part at place size : ℕ) (objects : List Placed)
    → object_entries part at 0 (Block place size ∷ objects)
    ≡ block_entry part at place size ∷ object_entries part (at + 1) 0 objects
block_first part at place size objects =
    let same : at + 0 ≡ at = omega arith in
    λ i. block_entry part (same i) place size ∷ object_entries part (same i + 1) 0 objects

-- no filemark comes first (own)
abbrev NoneFirst : List Placed → Type 0
NoneFirst [] = Unit {0}
NoneFirst (Mark ∷ objects) = ⊥
NoneFirst (Block place size ∷ objects) = Unit {0}

run_ends : (part at count : ℕ) (objects : List Placed) → NoneFirst objects
    → object_entries part at (suc count) objects
    ≡ marks_entry part at (suc count) ∷ object_entries part (at + suc count) 0 objects
run_ends part at count [] none = refl
run_ends part at count (Mark ∷ objects) none = absurd none
run_ends part at count (Block place size ∷ objects) none =
    ap (λ (l : List Entry). marks_entry part at (suc count) ∷ l)
    (sym (block_first part (at + suc count) place size objects))

run_goes : (part at marks count : ℕ) (objects : List Placed)
    → object_entries part at marks (replicate count Mark ++ objects) ≡ object_entries part at (count + marks) objects
run_goes part at marks zero objects =
    let same : marks ≡ 0 + marks = omega arith in ap (λ (n : ℕ). object_entries part at n objects) same
run_goes part at marks (suc count) objects =
    let same : count + suc marks ≡ suc count + marks = omega arith in
    run_goes part at (suc marks) count objects ∙ ap (λ (n : ℕ). object_entries part at n objects) same

-- a run of filemarks comes first
run_first : (part at count : ℕ) (objects : List Placed) → 1 ≤ count → NoneFirst objects
    → object_entries part at 0 (replicate count Mark ++ objects)
    ≡ marks_entry part at count ∷ object_entries part (at + count) 0 objects
run_first part at zero objects some none = absurd (omega arith)
run_first part at (suc count) objects some none =
    let same : suc count + 0 ≡ suc count = omega arith in
    run_goes part at 0 (suc count) objects
    ∙ ap (λ (n : ℕ). object_entries part at n objects) same
    ∙ run_ends part at count objects none

drop_run : (objects : List Placed) (at count : ℕ)
    → ((place : ℕ) → at ≤ place → place < at + count → HasMarkAt objects place)
    → drop at objects ≡ replicate count Mark ++ drop (at + count) objects
drop_run objects at zero marks =
    let same : at ≡ at + 0 = omega arith in ap (λ (n : ℕ). drop n objects) same
drop_run objects at (suc count) marks =
    let same : suc at + count ≡ at + suc count = omega arith in
    drop_here objects at Mark (marks at (omega arith) (omega arith))
    ∙ ap (λ (l : List Placed). Mark ∷ l)
    (drop_run objects (suc at) count (λ place low high. marks place (omega (arith, low)) (omega (arith, high)))
    ∙ ap (λ (n : ℕ). replicate count Mark ++ drop n objects) same)

none_at : (objects : List Placed) (at : ℕ) → (HasMarkAt objects at → ⊥) → NoneFirst (drop at objects)
none_at [] zero none = tt
none_at [] (suc at) none = tt
none_at (Mark ∷ objects) zero none = none refl
none_at (Block place size ∷ objects) zero none = tt
none_at (object ∷ objects) (suc at) none = none_at objects at none

-- `count` filemarks from a place on, and then none (own)
pub record RunOfMarks (objects : List Placed) (at count : ℕ) : Type 0 where
  pub some : 1 ≤ count
  pub marks : (place : ℕ) → at ≤ place → place < at + count → HasMarkAt objects place
  pub ends : HasMarkAt objects (at + count) → ⊥

run_entries : (part at count : ℕ) (objects : List Placed) → RunOfMarks objects at count
    → object_entries part at 0 (drop at objects)
    ≡ marks_entry part at count ∷ object_entries part (at + count) 0 (drop (at + count) objects)
run_entries part at count objects run =
    ap (object_entries part at 0) (drop_run objects at count run.marks)
    ∙ run_first part at count (drop (at + count) objects) run.some (none_at objects (at + count) run.ends)

-- for an index, from one of its objects on
module _ (parts : List PlacedPart) (part at : ℕ) where
  -- a block comes first
  pub block_next : (place size : ℕ) → slice_get (placed_objects parts part) at ≡ Some (Block place size)
      → entries_from parts part at ≡ block_entry part at place size ∷ entries_from parts part (at + 1)
  block_next place size is =
      let same : suc at ≡ at + 1 = omega arith in
      ap (λ (l : List Entry). l ++ part_entries (suc part) (drop (suc part) parts))
      (ap (object_entries part at 0) (drop_here (placed_objects parts part) at (Block place size) is)
      ∙ block_first part at place size (drop (suc at) (placed_objects parts part))
      ∙ ap (λ (n : ℕ). block_entry part at place size ∷ object_entries part (at + 1) 0
      (drop n (placed_objects parts part))) same)

  -- a run of filemarks comes first
  pub run_next : (count : ℕ) → RunOfMarks (placed_objects parts part) at count
      → entries_from parts part at ≡ marks_entry part at count ∷ entries_from parts part (at + count)
  run_next count run =
      ap (λ (l : List Entry). l ++ part_entries (suc part) (drop (suc part) parts))
      (run_entries part at count (placed_objects parts part) run)

  -- the partition has no more objects
  pub part_ends : length (placed_objects parts part) ≤ at
      → entries_from parts part at ≡ part_entries (suc part) (drop (suc part) parts)
  part_ends past =
      ap (λ (l : List Placed). object_entries part at 0 l ++ part_entries (suc part) (drop (suc part) parts))
      (past_all (placed_objects parts part) at past)

begins : (parts : List PlacedPart) (part number : ℕ)
    → object_entries number 0 0 (drop 0 (placed_objects parts part)) ++ part_entries (suc number)
    (drop (suc part) parts)
    ≡ part_entries number (drop part parts)
begins [] zero number = refl
begins [] (suc part) number = refl
begins (p ∷ ps) zero number = refl
begins (p ∷ ps) (suc part) number = begins ps part number

-- a partition, from its beginning on
pub part_begins : (parts : List PlacedPart) (part : ℕ) → entries_from parts part 0 ≡ part_entries part (drop part parts)
part_begins parts part = begins parts part part

-- the next partition follows where one has no more objects
pub next_part : (parts : List PlacedPart) (part at : ℕ) → length (placed_objects parts part) ≤ at
    → entries_from parts part at ≡ entries_from parts (suc part) 0
next_part parts part at past = part_ends parts part at past ∙ sym (part_begins parts (suc part))

no_parts : (parts : List PlacedPart) (part number : ℕ) → length parts ≤ part → part_entries number (drop part parts)
    ≡ []
no_parts [] zero number past = refl
no_parts [] (suc part) number past = refl
no_parts (p ∷ ps) zero number past = absurd (omega arith)
no_parts (p ∷ ps) (suc part) number past = no_parts ps part number (omega arith)

-- nothing follows the last partition
pub all_ended : (parts : List PlacedPart) (part at : ℕ) → length parts ≤ part → entries_from parts part at ≡ []
all_ended parts part at past =
    let none : placed_objects parts part ≡ [] = ap placed_objects_in (slice_get_past parts part past) in
    part_ends parts part at (omega (arith, ap (λ (l : List Placed). length l) none))
    ∙ no_parts parts (suc part) (suc part) (omega arith)

-- how many objects a partition has
pub count_placed : (parts : List PlacedPart) (part : ℕ)
    → count_of (outline parts) part ≡ length (placed_objects parts part)
count_placed parts part =
    ap (λ l. length l) (objects_outlined parts part) ∙ length-map (placed_objects parts part) (filled blank)
