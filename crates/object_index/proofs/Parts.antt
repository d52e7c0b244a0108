-- The partitions of an index, as those of a volume.
use Rattle.std.proofs.Common.{◌≡◌, ℕ, ◌<◌, ◌≤◌, ◌+◌, ◌^◌, List, [], ◌∷◌, ◌++◌, length, take, drop, map, refl, sym, ◌∙◌, ap, subst, arith, length-append, take-append-drop, Some, None, Bool, true, false}
use Rattle.std.specs.Prelude.{nat_lt, nat_le, not, if◌then◌else◌}
use Rattle.std.specs.List.{All}
use Rattle.std.proofs.lemmas.Bool.{and_parts, and_from, and_left, and_right, cond-true, cond-false, le-leb, le-ltb, leb-true, lt-leb, not_from_true, not_from_false}
use Rattle.std.proofs.lemmas.List.{length-map, length-replicate, length-take, take-map}
use Rattle.std.proofs.lemmas.List.Elements.{All-append, All-cons, All-nil, All-replicate, All-take}
use Rattle.std.proofs.lemmas.List.Sums.{sum_by-append, sum_by-cons}
use Rattle.vtl_base.specs.declared.limits.TheConstants.{MAX_BLOCK, MAX_CAPACITY, MAX_OBJECTS, MIN_CAPACITY}
use Rattle.volume_core.specs.declared.objects.Object.{Object}
use Rattle.volume_core.specs.declared.objects.Object.TheVariants as Objects
use Rattle.volume_core.specs.declared.changes.Change.{Change}
use Rattle.volume_core.specs.declared.changes.Change.TheVariants as Changes
use Rattle.volume_core.specs.declared.changes.Refusal.TheVariants.{PastEnd, NoRoom, TooLong}
use Rattle.volume_core.specs.Volume.{IsObject, IsPart, Part, added_by, cost_of, has_room, is_well_formed, staying_of, objects_after, part_after, refusal_in, used_of}
use Rattle.object_index.specs.declared.places.Placed.{Placed}
use Rattle.object_index.specs.declared.places.Placed.TheVariants.{Block, Mark}
use Rattle.change_records.specs.declared.records.Record.{Record}
use Rattle.change_records.specs.Records as records
use Rattle.change_records.specs.Records.{outlined}
use Rattle.object_index.specs.Places.{PlacedPart, blank, filled, filled_part, placed_by}
use Rattle.object_index.specs.Inner.Table.{Table}
use Rattle.object_index.specs.Inner.Tables.{cost_of_objects, cost_of_placed}
use Rattle.object_index.specs.Facts.{added_filled, filled_now, staying_filled}

-- a partition by its capacity and its table
abbrev pub placed_of : ℕ → Table → PlacedPart
placed_of capacity table = record { capacity = capacity; objects = table.objects; reserved = table.reserved }

blank_length : (size : ℕ) → length (blank 0 size) ≡ size
blank_length size = length-replicate {A = ℕ} size 0

-- what objects take, whether their bytes are known or not
pub used_filled : (objects : List Placed) → used_of (map (filled blank) objects) ≡ cost_of_objects objects
used_filled [] = refl
used_filled (Block place size ∷ objects) =
    sum_by-cons cost_of (filled blank (Block place size)) (map (filled blank) objects)
    ∙ (λ i. (blank_length size i + 16) + used_filled objects i)
    ∙ sym (sum_by-cons cost_of_placed (Block place size) objects)
used_filled (Mark ∷ objects) =
    sum_by-cons cost_of Objects.Mark (map (filled blank) objects)
    ∙ (λ i. 16 + used_filled objects i)
    ∙ sym (sum_by-cons cost_of_placed Mark objects)

pub used_taken : (objects : List Placed) (n : ℕ)
    → used_of (take n (map (filled blank) objects)) ≡ cost_of_objects (take n objects)
used_taken objects n = ap used_of (take-map (filled blank) n objects) ∙ used_filled (take n objects)

-- the first objects take no more than all
pub taken_within : (objects : List Placed) (n : ℕ) → cost_of_objects (take n objects) ≤ cost_of_objects objects
taken_within objects n =
    let all = sym (sum_by-append cost_of_placed (take n objects) (drop n objects))
    ∙ ap cost_of_objects (take-append-drop n objects) in
    omega (arith, all)

pub used_within : (part : PlacedPart) (n : ℕ) → IsPart (filled_part blank part)
    → cost_of_objects (take n part.objects) ≤ part.capacity
used_within part n limits = omega (arith, limits.fits, used_filled part.objects, taken_within part.objects n)

-- the parts of a refusal
not_refused : (past room formed : Bool)
    → (if past then Some PastEnd else
    (if not room then Some NoRoom else (if not formed then Some TooLong else None))) ≡ None
    → (past ≡ false) × (room ≡ true) × (formed ≡ true)
not_refused true room formed e = absurd (cc)
not_refused false false formed e = absurd (cc)
not_refused false true false e = absurd (cc)
not_refused false true true e = (refl, refl, refl)

module _ (part : PlacedPart) (item : Record) where
  abbrev seen : Part
  seen = filled_part blank part

  abbrev change : Change
  change = outlined item

  abbrev staying : ℕ
  staying = records.record_staying item

  abbrev staying_objects : List Placed
  staying_objects = take staying part.objects

  staying_is : staying_of change ≡ staying
  staying_is = staying_filled blank item 0

  abbrev past : Bool
  past = nat_lt (length seen.objects) (staying_of change)

  abbrev room : Bool
  room = has_room seen (objects_after seen.objects change)

  used_after : used_of (objects_after seen.objects change) ≡ cost_of_objects staying_objects + used_of (added_by change)
  used_after =
      sum_by-append cost_of (take (staying_of change) seen.objects) (added_by change)
      ∙ ap (λ (n : ℕ). n + used_of (added_by change))
      (ap (λ (n : ℕ). used_of (take n seen.objects)) staying_is ∙ used_taken part.objects staying)

  formed_objects : (c : Change) → is_well_formed c ≡ true → All IsObject (added_by c)
  formed_objects (Changes.Put p n block) formed =
      let parts = and_parts (nat_le 1 (length block)) (nat_le (length block) MAX_BLOCK) formed in
      All-cons IsObject (Objects.Block block) []
      (leb-true 1 (length block) parts.0, leb-true (length block) MAX_BLOCK parts.1) (All-nil IsObject)
  formed_objects (Changes.Marks p n count) formed = All-replicate IsObject count Objects.Mark tt
  formed_objects (Changes.Erase p n) formed = All-nil IsObject

  -- a change that is not refused stays within the limits
  pub limits_after : IsPart seen → refusal_in (Some seen) change ≡ None → IsPart (part_after seen change)
  limits_after limits none =
      let parts = not_refused past room (is_well_formed change) none in
      let rooms = and_parts (nat_le (length (objects_after seen.objects change)) MAX_OBJECTS)
      (nat_le (used_of (objects_after seen.objects change)) part.capacity) parts.1 in
      record {
        capacity_fits = limits.capacity_fits;
        few = leb-true (length (objects_after seen.objects change)) MAX_OBJECTS rooms.0;
        fits = leb-true (used_of (objects_after seen.objects change)) part.capacity rooms.1;
        well_formed =
            All-append IsObject (take (staying_of change) seen.objects) (added_by change)
            (All-take IsObject (staying_of change) seen.objects limits.well_formed) (formed_objects change parts.2);
      }

  pub limits_placed : (place reserved : ℕ) → IsPart seen → refusal_in (Some seen) change ≡ None
      → IsPart (filled_part blank (record {
        capacity = part.capacity;
        objects = staying_objects ++ placed_by item place;
        reserved = reserved;
      }))
  limits_placed place reserved limits none =
      subst (λ (objects : List Object). IsPart (record { capacity = part.capacity; objects = objects }))
      (sym (filled_now blank [] item place reserved part)) (limits_after limits none)

  -- a change that is not refused takes no more than the capacity
  pub cost_after : refusal_in (Some seen) change ≡ None
      → cost_of_objects staying_objects + used_of (added_by change) ≤ part.capacity
  cost_after none =
      let parts = not_refused past room (is_well_formed change) none in
      let rooms = and_parts (nat_le (length (objects_after seen.objects change)) MAX_OBJECTS)
      (nat_le (used_of (objects_after seen.objects change)) part.capacity) parts.1 in
      omega (arith, used_after, leb-true (used_of (objects_after seen.objects change)) part.capacity rooms.1)

-- what a partition takes after a record is below 2^64
pub cost_fits : (part : PlacedPart) (item : Record) (place : ℕ) → IsPart (filled_part blank part)
    → refusal_in (Some (filled_part blank part)) (outlined item) ≡ None
    → cost_of_objects (take (records.record_staying item) part.objects ++ placed_by item place) < 2 ^ 64
cost_fits part item place limits none =
    let after = cost_after part item none in
    let added = ap used_of (sym (added_filled blank item place)) ∙ used_filled (placed_by item place) in
    let room = and_parts (nat_le MIN_CAPACITY part.capacity) (nat_le part.capacity MAX_CAPACITY) limits.capacity_fits in
    omega (
      arith,
      after,
      added,
      leb-true part.capacity MAX_CAPACITY room.1,
      sum_by-append cost_of_placed (take (records.record_staying item) part.objects) (placed_by item place),
    )

-- what a partition takes is below 2^64
pub capacity_fits : (part : PlacedPart) → IsPart (filled_part blank part) → part.capacity < 2 ^ 64
capacity_fits part limits =
    let room = and_parts (nat_le MIN_CAPACITY part.capacity) (nat_le part.capacity MAX_CAPACITY) limits.capacity_fits in
    omega (arith, leb-true part.capacity MAX_CAPACITY room.1)

-- the first objects of a partition stay within its limits
pub limits_cut : (part : PlacedPart) (n reserved : ℕ) → IsPart (filled_part blank part)
    → IsPart
    (filled_part blank (record { capacity = part.capacity; objects = take n part.objects; reserved = reserved }))
limits_cut part n reserved limits =
    subst (λ (objects : List Object). IsPart (record { capacity = part.capacity; objects = objects }))
    (take-map (filled blank) n part.objects) (record {
      capacity_fits = limits.capacity_fits;
      few = omega (arith, limits.few, length-take n (map (filled blank) part.objects));
      fits =
          omega (arith, limits.fits, used_taken part.objects n, used_filled part.objects, taken_within part.objects n);
      well_formed = All-take IsObject n (map (filled blank) part.objects) limits.well_formed;
    })
