-- The volume that a copy makes, and the changes in it.
use Rattle.std.specs.Prelude.{◌≡◌, ◌+◌, ℕ, zero, suc, true, List, [], ◌∷◌, ◌++◌, length, map, replicate, take, nat_le, not, if◌then◌else◌, Option, None, Some, slice_get, slice_set, refl}
use Rattle.std.specs.List.{All}
use Rattle.std.proofs.Common.{ap, sym, subst, ◌∙◌, arith, length-append}
use Rattle.std.proofs.lemmas.Bool.{and_from, le-leb, le-ltb}
use Rattle.std.proofs.lemmas.List.{append-nil, append_assoc, length-replicate, take_all}
use Rattle.std.proofs.lemmas.List.Sums.{sum_by-append}
use Rattle.vtl_base.specs.declared.limits.TheConstants.{MAX_BLOCK, MAX_OBJECTS}
use Rattle.volume_core.specs.declared.objects.Object.{Object}
use Rattle.volume_core.specs.declared.objects.Object.TheVariants.{Block, Mark}
use Rattle.volume_core.specs.declared.changes.Change.{Change}
use Rattle.volume_core.specs.declared.changes.Change.TheVariants.{Put, Marks}
use Rattle.volume_core.specs.declared.changes.Refusal.TheVariants.{PastEnd, NoRoom, TooLong}
use Rattle.volume_core.specs.Volume.{IsObject, IsPart, IsVolume, Part, added_by, changed, changed_in, cost_of, empty_part, empty_volume, has_room, is_well_formed, staying_of, objects_after, part_of, refusal_in, refusal_of, used_of}
use Rattle.std.proofs.lemmas.List.Elements.{All-head, All-tail}
use Rattle.volume_copy.specs.Copies.{Makes, copy_objects, copy_of, copy_parts, marks_change}

-- the capacities of a volume (own)
abbrev pub capacities_of : List Part → List ℕ
capacities_of volume = map (λ (part : Part). part.capacity) volume

-- partitions: some, one with these objects, and some after it (own)
abbrev grown : List Part → ℕ → List Object → List Part → List Part
grown before capacity objects behind =
    before ++ (let part : Part = record { capacity = capacity; objects = objects } in part) ∷ behind

part_at : (before behind : List Part) (part : Part) → slice_get (before ++ part ∷ behind) (length before) ≡ Some part
part_at [] behind part = refl
part_at (p ∷ ps) behind part = part_at ps behind part

part_set : (before behind : List Part) (part other : Part)
    → slice_set (before ++ part ∷ behind) (length before) other ≡ before ++ other ∷ behind
part_set [] behind part other = refl
part_set (p ∷ ps) behind part other = ap (λ (l : List Part). p ∷ l) (part_set ps behind part other)

-- changes that make one volume, and others that make the next from it
makes_on : (old middle new : List Part) (first second : List Change) → Makes old first middle
    → Makes middle second new → Makes old (first ++ second) new
makes_on old middle new [] second one other =
    subst (λ (v : List Part). Makes v second new) (sym one.1) other
makes_on old middle new (change ∷ first) second one other =
    let rest = makes_on (changed old change) middle new first second (one.0.1, one.1) other in
    ((one.0.0, rest.0), rest.1)

-- a first part of a partition's objects has room
has_room_of : (part : Part) (objects others : List Object)
    → IsPart (let whole : Part = record { capacity = part.capacity; objects = objects ++ others } in whole)
    → has_room part objects ≡ true
has_room_of part objects others is =
    and_from (nat_le (length objects) MAX_OBJECTS) (nat_le (used_of objects) part.capacity)
    (le-leb (length objects) MAX_OBJECTS (omega (arith, is.few, length-append objects others)))
    (le-leb (used_of objects) part.capacity (omega (arith, is.fits, sum_by-append cost_of objects others)))

-- a change after all objects of a partition
module _ (before behind : List Part) (capacity : ℕ) (objects others : List Object) (change : Change) where
  whole : List Part
  whole = grown before capacity objects behind

  -- it is well formed, and leads to objects that fit (own)
  record Goes : Type 0 where
    target : part_of change ≡ length before
    staying : staying_of change ≡ length objects
    formed : is_well_formed change ≡ true
    fits :
        IsPart
        (let part : Part = record { capacity = capacity; objects = objects ++ added_by change ++ others } in part)

  abbrev part : Part
  part = record { capacity = capacity; objects = objects }

  now : Goes → objects_after objects change ≡ objects ++ added_by change
  now goes =
      ap (λ (l : List Object). l ++ added_by change)
      (ap (λ (n : ℕ). take n objects) goes.staying ∙ take_all (length objects) objects (omega arith))

  there : Goes → slice_get (grown before capacity objects behind) (part_of change) ≡ Some part
  there goes = ap (slice_get (grown before capacity objects behind)) goes.target ∙ part_at before behind part

  applies : Goes → refusal_of (grown before capacity objects behind) change ≡ None
  applies goes =
      let past = le-ltb (length objects) (staying_of change) (omega (arith, goes.staying)) in
      let room = ap (has_room part) (now goes) ∙ has_room_of part (objects ++ added_by change) others goes.fits in
      ap (λ (p : Option Part). refusal_in p change) (there goes)
      ∙ (λ i. if past i then Some PastEnd
      else (if not (room i) then Some NoRoom
      else (if not (goes.formed i) then Some TooLong
      else None)))

  leads : Goes → changed (grown before capacity objects behind) change
      ≡ grown before capacity (objects ++ added_by change) behind
  leads goes =
      ap (λ (p : Option Part). changed_in p (grown before capacity objects behind) change) (there goes)
      ∙ (λ i. slice_set (grown before capacity objects behind) (goes.target i)
      (let made : Part = record { capacity = capacity; objects = now goes i } in made))
      ∙ part_set before behind part
      (let made : Part = record { capacity = capacity; objects = objects ++ added_by change } in made)

  makes_one : Goes → Makes (grown before capacity objects behind) (change ∷ [])
      (grown before capacity (objects ++ added_by change) behind)
  makes_one goes = ((applies goes, tt), leads goes)

slid : (count : ℕ) (objects : List Object)
    → replicate (suc count) Mark ++ objects ≡ replicate count Mark ++ Mark ∷ objects
slid zero objects = refl
slid (suc count) objects = ap (λ (l : List Object). Mark ∷ l) (slid count objects)

-- a partition that grows by the objects after some filemarks
module _ (before behind : List Part) (capacity : ℕ) where
  abbrev FitsPart : List Object → Type 0
  FitsPart objects = IsPart (let part : Part = record { capacity = capacity; objects = objects } in part)

  makes_marks : (objects : List Object) (count : ℕ) (others : List Object)
      → FitsPart (objects ++ replicate count Mark ++ others)
      → Makes (grown before capacity objects behind) (marks_change (length before) (length objects) count)
      (grown before capacity (objects ++ replicate count Mark) behind)
  makes_marks objects zero others fits =
      (tt, ap (λ (l : List Object). grown before capacity l behind) (sym (append-nil objects)))
  makes_marks objects (suc count) others fits =
      makes_one before behind capacity objects others (Marks (length before) (length objects) (suc count))
      (record { target = refl; staying = refl; formed = le-leb 1 (suc count) (omega arith); fits = fits })

  makes_block : (objects : List Object) (at : ℕ) (bytes : List ℕ) (others : List Object) → at ≡ length objects
      → FitsPart (objects ++ (Block bytes ∷ []) ++ others)
      → Makes (grown before capacity objects behind) (Put (length before) at bytes ∷ [])
      (grown before capacity (objects ++ Block bytes ∷ []) behind)
  makes_block objects at bytes others place fits =
      let one = All-head IsObject (Block bytes) others
      (after_of objects (Block bytes ∷ others)
      (subst (All IsObject) (append_assoc objects (Block bytes ∷ []) others) fits.well_formed)) in
      makes_one before behind capacity objects others (Put (length before) at bytes)
      (record {
        target = refl;
        staying = place;
        formed = and_from (nat_le 1 (length bytes)) (nat_le (length bytes) MAX_BLOCK) (le-leb 1 (length bytes) one.0)
            (le-leb (length bytes) MAX_BLOCK one.1);
        fits = fits;
      })
    where
      after_of : (xs ys : List Object) → All IsObject (xs ++ ys) → All IsObject ys
      after_of [] ys all = all
      after_of (x ∷ xs) ys all = after_of xs ys (All-tail IsObject x (xs ++ ys) all)

  -- the copy of objects adds them
  makes_objects : (held : List Object) (marks : ℕ) (objects : List Object)
      → FitsPart (held ++ replicate marks Mark ++ objects)
      → Makes (grown before capacity held behind) (copy_objects (length before) (length held) marks objects)
      (grown before capacity (held ++ replicate marks Mark ++ objects) behind)
  makes_objects held marks [] fits =
      let same = append-nil (held ++ replicate marks Mark) in
      subst (λ (l : List Object). Makes (grown before capacity held behind)
      (marks_change (length before) (length held) marks) (grown before capacity l behind)) (sym same)
      (makes_marks held marks [] fits)
  makes_objects held marks (Mark ∷ objects) fits =
      let same : held ++ replicate (suc marks) Mark ++ objects ≡ held ++ replicate marks Mark ++ Mark ∷ objects =
      append_assoc held (replicate (suc marks) Mark) objects
      ∙ ap (λ (l : List Object). held ++ l) (slid marks objects)
      ∙ sym (append_assoc held (replicate marks Mark) (Mark ∷ objects)) in
      subst (λ (l : List Object). Makes (grown before capacity held behind)
      (copy_objects (length before) (length held) (suc marks) objects) (grown before capacity l behind)) same
      (makes_objects held (suc marks) objects (subst FitsPart (sym same) fits))
  makes_objects held marks (Block bytes ∷ objects) fits =
      let marked = held ++ replicate marks Mark in
      let put = marked ++ Block bytes ∷ [] in
      let place : length held + marks ≡ length marked =
      sym (length-append held (replicate marks Mark)
      ∙ ap (λ (n : ℕ). length held + n) (length-replicate marks Mark)) in
      let next : length held + marks + 1 ≡ length put = omega (arith, place, length-append marked (Block bytes ∷ [])) in
      let here : put ++ [] ++ objects ≡ marked ++ Block bytes ∷ objects =
      ap (λ (l : List Object). l ++ objects) (append-nil put) ∙ append_assoc marked (Block bytes ∷ []) objects in
      let then_fits = subst FitsPart (sym here) fits in
      let on : Makes (grown before capacity put behind)
      (copy_objects (length before) (length held + marks + 1) 0 objects)
      (grown before capacity (marked ++ Block bytes ∷ objects) behind) =
      subst (λ (x : ℕ × List Object). Makes (grown before capacity put behind)
      (copy_objects (length before) x.0 0 objects) (grown before capacity x.1 behind))
      (λ i. (sym next i, here i)) (makes_objects put 0 objects then_fits) in
      makes_on (grown before capacity held behind) (grown before capacity marked behind)
      (grown before capacity (marked ++ Block bytes ∷ objects) behind)
      (marks_change (length before) (length held) marks)
      (Put (length before) (length held + marks) bytes
      ∷ copy_objects (length before) (length held + marks + 1) 0 objects)
      (makes_marks held marks (Block bytes ∷ objects) fits)
      (makes_on (grown before capacity marked behind) (grown before capacity put behind)
      (grown before capacity (marked ++ Block bytes ∷ objects) behind)
      (Put (length before) (length held + marks) bytes ∷ [])
      (copy_objects (length before) (length held + marks + 1) 0 objects)
      (makes_block marked (length held + marks) bytes objects place
      (subst FitsPart (sym (append_assoc marked (Block bytes ∷ []) objects)) fits)) on)

makes_parts : (before parts : List Part) → All IsPart parts
    → Makes (before ++ empty_volume (capacities_of parts)) (copy_parts (length before) parts) (before ++ parts)
makes_parts before [] each = (tt, refl)
makes_parts before (part ∷ parts) each =
    let empty = empty_volume (capacities_of parts) in
    let one = makes_objects before empty part.capacity [] 0 part.objects (All-head IsPart part parts each) in
    let next : length (before ++ part ∷ []) ≡ suc (length before) =
    omega (arith, length-append before (part ∷ [])) in
    let rest = makes_parts (before ++ part ∷ []) parts (All-tail IsPart part parts each) in
    makes_on (before ++ empty_part part.capacity ∷ empty) (before ++ part ∷ empty) (before ++ part ∷ parts)
    (copy_objects (length before) 0 0 part.objects) (copy_parts (suc (length before)) parts) one
    (subst (λ (x : List Part × ℕ × List Part). Makes x.0 (copy_parts x.1 parts) x.2)
    (λ i. (append_assoc before (part ∷ []) empty i, next i, append_assoc before (part ∷ []) parts i)) rest)

-- the copy of a volume makes it from a volume without objects
pub copy_makes : (volume : List Part) → IsVolume volume
    → Makes (empty_volume (capacities_of volume)) (copy_of volume) volume
copy_makes volume is = makes_parts [] volume is.each
