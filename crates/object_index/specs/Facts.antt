-- Facts that do not depend on the bytes of blocks, and what applies: the laws of shapes as lemmas, for the crates
-- above.
use Rattle.std.specs.Prelude.{◌≡◌, ◌+◌, ℕ, zero, suc, List, [], ◌∷◌, ◌++◌, length, take, map, replicate, Option, None, Some, slice_get, slice_set, nat_lt, nat_le, not, ◌&&◌, if◌then◌else◌, refl}
use Rattle.std.specs.Option.{option_map}
use Rattle.std.proofs.Common.{ap, sym, ◌∙◌}
use Rattle.std.proofs.lemmas.List.{map-append, map-set, length-map, length-replicate, take-map}
use Rattle.std.proofs.lemmas.List.Sums.{sum_by-cons}
use Rattle.std.proofs.lemmas.Option.{slice_get-map}
use Rattle.vtl_base.specs.declared.limits.TheConstants.{MAX_BLOCK, MAX_OBJECTS}
use Rattle.volume_core.specs.declared.objects.Object.{Object}
use Rattle.volume_core.specs.declared.objects.Object.TheVariants.{Block, Mark}
use Rattle.volume_core.specs.declared.changes.Change.{Change}
use Rattle.volume_core.specs.declared.changes.Change.TheVariants.{Put, Marks, Erase}
use Rattle.volume_core.specs.declared.changes.Refusal.TheVariants.{PastEnd, NoRoom, TooLong}
use Rattle.volume_core.specs.Volume.{Part, added_by, capacity_in, capacity_of, changed, changed_in, cost_of, count_of, has_room, is_well_formed, staying_of, kind_at, kind_in, objects_after, objects_in, objects_of, part_after, part_of, refusal_in, refusal_of, used_of, used_up_to}
use Rattle.object_index.specs.declared.places.Placed.{Placed}
use Rattle.object_index.specs.declared.places.Placed.TheVariants as Placeds
use Rattle.change_records.specs.declared.records.Record.{Record}
use Rattle.change_records.specs.declared.records.Record.TheVariants as Records
use Rattle.change_records.specs.Records.{record_of}
use Rattle.change_records.specs.Records as records
use Rattle.object_index.specs.Places.{PlacedPart, Reading, blank, change_by, filled, filled_part, outline, placed_after, placed_by, placed_objects, placed_objects_in, volume_by, with_objects, with_objects_in}
use Rattle.object_index.specs.Shapes.{IsIndexOf, blanked, shape_of, shape_of_change, shape_of_part}

-- a list of one value, each element mapped
pub map-replicate : {A B : Type 0} (f : A → B) (n : ℕ) (a : A) → map f (replicate n a) ≡ replicate n (f a)
map-replicate f zero a = refl
map-replicate f (suc n) a = ap (λ l. f a ∷ l) (map-replicate f n a)

-- a part of a volume's shape
part_by_shape : (volume : List Part) (number : ℕ)
    → slice_get (shape_of volume) number ≡ option_map shape_of_part (slice_get volume number)
part_by_shape volume number = slice_get-map shape_of_part volume number

-- the capacities of a shape are those of the volume (own)
pub capacity_by_shape : (volume : List Part) (number : ℕ) → capacity_of (shape_of volume) number
    ≡ capacity_of volume number
capacity_by_shape volume number = ap capacity_in (part_by_shape volume number) ∙ of_it (slice_get volume number)
  where
    of_it : (part : Option Part) → capacity_in (option_map shape_of_part part) ≡ capacity_in part
    of_it None = refl
    of_it (Some part) = refl

-- the objects of a shape are those of the volume, with bytes 00h (own)
pub objects_by_shape : (volume : List Part) (number : ℕ)
    → objects_of (shape_of volume) number ≡ map blanked (objects_of volume number)
objects_by_shape volume number = ap objects_in (part_by_shape volume number) ∙ of_it (slice_get volume number)
  where
    of_it : (part : Option Part) → objects_in (option_map shape_of_part part) ≡ map blanked (objects_in part)
    of_it None = refl
    of_it (Some part) = refl

-- the counts of a shape are those of the volume (own)
pub count_by_shape : (volume : List Part) (number : ℕ) → count_of (shape_of volume) number ≡ count_of volume number
count_by_shape volume number =
    ap length (objects_by_shape volume number) ∙ length-map (objects_of volume number) blanked

-- the kinds of a shape are those of the volume (own)
pub kind_by_shape : (volume : List Part) (number at : ℕ)
    → kind_at (shape_of volume) number at ≡ kind_at volume number at
kind_by_shape volume number at =
    ap (λ (objects : List Object). kind_in (slice_get objects at)) (objects_by_shape volume number)
    ∙ ap kind_in (slice_get-map blanked (objects_of volume number) at)
    ∙ of_it (slice_get (objects_of volume number) at)
  where
    of_it : (object : Option Object) → kind_in (option_map blanked object) ≡ kind_in object
    of_it None = refl
    of_it (Some (Block bytes)) = refl
    of_it (Some Mark) = refl

cost_by_shape : (object : Object) → cost_of (blanked object) ≡ cost_of object
cost_by_shape (Block bytes) = ap (λ (n : ℕ). n + 16) (length-replicate (length bytes) 0)
cost_by_shape Mark = refl

-- what objects take does not depend on the bytes of blocks (own)
pub used_blanked : (objects : List Object) → used_of (map blanked objects) ≡ used_of objects
used_blanked [] = refl
used_blanked (object ∷ objects) =
    sum_by-cons cost_of (blanked object) (map blanked objects)
    ∙ (λ i. cost_by_shape object i + used_blanked objects i)
    ∙ sym (sum_by-cons cost_of object objects)

-- what the first objects take is the same in the shape (own)
pub used_by_shape : (volume : List Part) (number n : ℕ)
    → used_up_to (shape_of volume) number n ≡ used_up_to volume number n
used_by_shape volume number n =
    ap (λ (objects : List Object). used_of (take n objects)) (objects_by_shape volume number)
    ∙ ap used_of (take-map blanked n (objects_of volume number))
    ∙ used_blanked (take n (objects_of volume number))

staying_by_shape : (change : Change) → staying_of (shape_of_change change) ≡ staying_of change
staying_by_shape (Put part at block) = refl
staying_by_shape (Marks part at count) = refl
staying_by_shape (Erase part at) = refl

target_by_shape : (change : Change) → part_of (shape_of_change change) ≡ part_of change
target_by_shape (Put part at block) = refl
target_by_shape (Marks part at count) = refl
target_by_shape (Erase part at) = refl

formed_by_shape : (change : Change) → is_well_formed (shape_of_change change) ≡ is_well_formed change
formed_by_shape (Put part at block) =
    ap (λ (n : ℕ). nat_le 1 n && nat_le n MAX_BLOCK) (length-replicate (length block) 0)
formed_by_shape (Marks part at count) = refl
formed_by_shape (Erase part at) = refl

added_by_shape : (change : Change) → added_by (shape_of_change change) ≡ map blanked (added_by change)
added_by_shape (Put part at block) = refl
added_by_shape (Marks part at count) = sym (map-replicate blanked count Mark)
added_by_shape (Erase part at) = refl

after_by_shape : (objects : List Object) (change : Change)
    → objects_after (map blanked objects) (shape_of_change change) ≡ map blanked (objects_after objects change)
after_by_shape objects change =
    (λ i. take (staying_by_shape change i) (map blanked objects) ++ added_by_shape change i)
    ∙ ap (λ (staying : List Object). staying ++ map blanked (added_by change)) (take-map blanked (staying_of change)
    objects)
    ∙ sym (map-append blanked (take (staying_of change) objects) (added_by change))

room_by_shape : (part : Part) (objects : List Object)
    → has_room (shape_of_part part) (map blanked objects) ≡ has_room part objects
room_by_shape part objects =
    λ i. nat_le (length-map objects blanked i) MAX_OBJECTS && nat_le (used_blanked objects i) part.capacity

refusal_by_part : (part : Part) (change : Change)
    → refusal_in (Some (shape_of_part part)) (shape_of_change change) ≡ refusal_in (Some part) change
refusal_by_part part change =
    let room = ap (has_room (shape_of_part part)) (after_by_shape part.objects change)
    ∙ room_by_shape part (objects_after part.objects change) in
    λ i. if nat_lt (length-map part.objects blanked i) (staying_by_shape change i) then Some PastEnd
    else (if not (room i) then Some NoRoom
    else (if not (formed_by_shape change i) then Some TooLong
    else None))

-- a change is refused as the shape of the volume refuses the shape of the change (own)
pub refusal_by_shape : (volume : List Part) (change : Change)
    → refusal_of (shape_of volume) (shape_of_change change) ≡ refusal_of volume change
refusal_by_shape volume change =
    (λ i. refusal_in (slice_get (shape_of volume) (target_by_shape change i)) (shape_of_change change))
    ∙ ap (λ (part : Option Part). refusal_in part (shape_of_change change)) (part_by_shape volume (part_of change))
    ∙ of_it (slice_get volume (part_of change))
  where
    of_it : (part : Option Part)
        → refusal_in (option_map shape_of_part part) (shape_of_change change) ≡ refusal_in part change
    of_it None = refl
    of_it (Some part) = refusal_by_part part change

blanked_twice : (object : Object) → blanked (blanked object) ≡ blanked object
blanked_twice (Block bytes) = ap (λ (n : ℕ). Block (replicate n 0)) (length-replicate (length bytes) 0)
blanked_twice Mark = refl

objects_twice : (objects : List Object) → map blanked (map blanked objects) ≡ map blanked objects
objects_twice [] = refl
objects_twice (object ∷ objects) = λ i. blanked_twice object i ∷ objects_twice objects i

shape_twice : (volume : List Part) → shape_of (shape_of volume) ≡ shape_of volume
shape_twice [] = refl
shape_twice (part ∷ parts) =
    λ i. record { capacity = part.capacity; objects = objects_twice part.objects i } ∷ shape_twice parts i

-- the shape of a volume refuses what the volume refuses (own)
pub refusal_of_shape : (volume : List Part) (change : Change) → refusal_of (shape_of volume) change
    ≡ refusal_of volume change
refusal_of_shape volume change =
    sym (refusal_by_shape (shape_of volume) change)
    ∙ ap (λ (shape : List Part). refusal_of shape (shape_of_change change)) (shape_twice volume)
    ∙ refusal_by_shape volume change

-- the shape after a change
pub shape_changed : (volume : List Part) (change : Change)
    → shape_of (changed volume change) ≡ changed (shape_of volume) (shape_of_change change)
shape_changed volume change =
    of_it (slice_get volume (part_of change))
    ∙ ap (λ (part : Option Part). changed_in part (shape_of volume) (shape_of_change change))
    (sym (part_by_shape volume (part_of change)))
    ∙ ap (λ (number : ℕ). changed_in (slice_get (shape_of volume) number) (shape_of volume) (shape_of_change change))
    (sym (target_by_shape change))
  where
    of_it : (part : Option Part)
        → shape_of (changed_in part volume change)
        ≡ changed_in (option_map shape_of_part part) (shape_of volume) (shape_of_change change)
    of_it None = refl
    of_it (Some part) =
        map-set shape_of_part volume (part_of change) (part_after part change)
        ∙ (λ i. slice_set (shape_of volume) (target i) (after_part i))
      where
        after_part : shape_of_part (part_after part change) ≡ part_after (shape_of_part part) (shape_of_change change)
        after_part =
            ap (λ (objects : List Object). let made : Part =
            record { capacity = part.capacity; objects = objects } in made)
            (sym (after_by_shape part.objects change))

        target : part_of change ≡ part_of (shape_of_change change)
        target = sym (target_by_shape change)

-- the objects that a record adds to a partition of an index, with the bytes that reads return
pub added_filled : (read : Reading) (item : Record) (place : ℕ)
    → map (filled read) (placed_by item place) ≡ added_by (change_by read item place)
added_filled read (Records.Put part at size) place = refl
added_filled read (Records.Marks part at count) place = map-replicate (filled read) count Placeds.Mark
added_filled read (Records.Erase part at) place = refl

-- the change of a record has the record's partition (own)
pub target_filled : (read : Reading) (item : Record) (place : ℕ) → part_of (change_by read item place)
    ≡ records.record_part item
target_filled read (Records.Put part at size) place = refl
target_filled read (Records.Marks part at count) place = refl
target_filled read (Records.Erase part at) place = refl

-- and leaves as many objects (own)
pub staying_filled : (read : Reading) (item : Record) (place : ℕ) → staying_of (change_by read item place)
    ≡ records.record_staying item
staying_filled read (Records.Put part at size) place = refl
staying_filled read (Records.Marks part at count) place = refl
staying_filled read (Records.Erase part at) place = refl

-- the volume of an index after a record, with the bytes that reads return
module _ (read : Reading) (parts : List PlacedPart) (item : Record) (place reserved : ℕ) where
  -- the objects after a record, in a partition that may be there (own)
  abbrev pub now : Option PlacedPart → List Placed
  now part = take (records.record_staying item) (placed_objects_in part) ++ placed_by item place

  -- the partition after a record (own)
  abbrev pub placed : PlacedPart → PlacedPart
  placed part = record { capacity = part.capacity; objects = now (Some part); reserved = reserved }

  -- its objects, with the bytes that reads return, are those after the change (own)
  pub filled_now : (part : PlacedPart)
      → map (filled read) (now (Some part)) ≡ objects_after (map (filled read) part.objects) (change_by read item place)
  filled_now part =
      map-append (filled read) (take (records.record_staying item) part.objects) (placed_by item place)
      ∙ (λ i. staying i ++ added_filled read item place i)
    where
      staying : map (filled read) (take (records.record_staying item) part.objects)
          ≡ take (staying_of (change_by read item place)) (map (filled read) part.objects)
      staying =
          sym (take-map (filled read) (records.record_staying item) part.objects)
          ∙ ap (λ (n : ℕ). take n (map (filled read) part.objects)) (sym (staying_filled read item place))

  by_part : (part : Option PlacedPart)
      → volume_by read (with_objects_in part parts (records.record_part item) (now part) reserved)
      ≡ changed_in (option_map (filled_part read) part) (volume_by read parts) (change_by read item place)
  by_part None = refl
  by_part (Some part) =
      map-set (filled_part read) parts (records.record_part item) (placed part)
      ∙ (λ i. slice_set (volume_by read parts) (target i) (after_part i))
    where
      after_part : filled_part read (placed part) ≡ part_after (filled_part read part) (change_by read item place)
      after_part =
          ap (λ (objects : List Object). let made : Part = record { capacity = part.capacity; objects = objects } in
          made)
          (filled_now part)

      target : records.record_part item ≡ part_of (change_by read item place)
      target = sym (target_filled read item place)

  -- the volume of an index after a record is the volume after its change (own)
  pub volume_after : volume_by read (placed_after parts item place reserved)
      ≡ changed (volume_by read parts) (change_by read item place)
  volume_after =
      by_part (slice_get parts (records.record_part item))
      ∙ ap (λ (part : Option Part). changed_in part (volume_by read parts) (change_by read item place))
      (sym (slice_get-map (filled_part read) parts (records.record_part item)))
      ∙ ap (λ (number : ℕ). changed_in (slice_get (volume_by read parts) number) (volume_by read parts)
      (change_by read item place))
      (sym (target_filled read item place))

-- an index with the shape of a volume has it after a change too
pub shape_after : (parts : List PlacedPart) (volume : List Part) (change : Change) (place reserved : ℕ)
    → IsIndexOf parts volume → IsIndexOf (placed_after parts (record_of change) place reserved) (changed volume change)
shape_after parts volume change place reserved same =
    volume_after blank parts (record_of change) place reserved
    ∙ ap (λ (shape : List Part). changed shape (shape_of_change change)) same
    ∙ sym (shape_changed volume change)

-- where reads return the block of a change, the volume of the index changes by that change
pub blocks_after : (read : Reading) (parts : List PlacedPart) (change : Change) (place reserved : ℕ)
    → change_by read (record_of change) place ≡ change
    → volume_by read (placed_after parts (record_of change) place reserved) ≡ changed (volume_by read parts) change
blocks_after read parts change place reserved there =
    volume_after read parts (record_of change) place reserved ∙ ap (changed (volume_by read parts)) there
