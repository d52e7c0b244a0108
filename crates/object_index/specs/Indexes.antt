-- An index of a volume: each object has the same kind and length, and a fact P holds of each block's bytes and place.
-- The lemmas are for the crates above: P is any fact, and no clause can range over facts.
use Rattle.std.specs.Prelude.{◌≡◌, ℕ, zero, suc, List, [], ◌∷◌, ◌++◌, length, take, map, replicate, Option, None, Some, slice_get, slice_set, refl}
use Rattle.std.proofs.Common.{ap, sym, subst, ◌∙◌}
use Rattle.volume_core.specs.declared.objects.Object.{Object}
use Rattle.volume_core.specs.declared.objects.Object.TheVariants.{Block, Mark}
use Rattle.volume_core.specs.declared.changes.Change.{Change}
use Rattle.volume_core.specs.declared.changes.Change.TheVariants.{Put, Marks, Erase}
use Rattle.volume_core.specs.Volume.{Part, added_by, block_at, block_in, changed, changed_in, empty_volume, staying_of, objects_in, part_of, part_after}
use Rattle.object_index.specs.declared.places.Placed.{Placed}
use Rattle.object_index.specs.declared.places.Placed.TheVariants as Placeds
use Rattle.change_records.specs.Records.{record_of}
use Rattle.change_records.specs.Records as records
use Rattle.object_index.specs.Places.{PlacedPart, blank, empty_placed, filled, placed_after, placed_by, placed_objects, placed_objects_in, with_objects, with_objects_in}
use Rattle.object_index.specs.Shapes.{IsIndexOf, blanked}

module _ (P : List ℕ → ℕ → Type 0) where
  -- the object has this kind and length, and for a block P holds of its bytes and its place (own)
  abbrev pub LiesAs : Object → Placed → Type 0
  LiesAs (Block bytes) (Placeds.Block place size) = (size ≡ length bytes) × P bytes place
  LiesAs (Block bytes) Placeds.Mark = ⊥
  LiesAs Mark (Placeds.Block place size) = ⊥
  LiesAs Mark Placeds.Mark = Unit {0}

  -- the same for each object of a list (own)
  abbrev pub AllLieAs : List Object → List Placed → Type 0
  AllLieAs [] [] = Unit {0}
  AllLieAs [] (placed ∷ others) = ⊥
  AllLieAs (object ∷ objects) [] = ⊥
  AllLieAs (object ∷ objects) (placed ∷ others) = LiesAs object placed × AllLieAs objects others

  -- each partition has the capacity, and the same holds for its objects (own)
  abbrev pub Indexes : List Part → List PlacedPart → Type 0
  Indexes [] [] = Unit {0}
  Indexes [] (placed ∷ others) = ⊥
  Indexes (part ∷ parts) [] = ⊥
  Indexes (part ∷ parts) (placed ∷ others) =
      (placed.capacity ≡ part.capacity) × AllLieAs part.objects placed.objects × Indexes parts others

  -- for the block of a change, if it has one, P holds at this place (own)
  abbrev pub LiesAt : Change → ℕ → Type 0
  LiesAt (Put part at block) place = P block place
  LiesAt (Marks part at count) place = Unit {0}
  LiesAt (Erase part at) place = Unit {0}

-- an index without objects
pub indexes_empty : (P : List ℕ → ℕ → Type 0) (capacities : List ℕ)
    → Indexes P (empty_volume capacities) (map empty_placed capacities)
indexes_empty P [] = tt
indexes_empty P (capacity ∷ capacities) = (refl, tt, indexes_empty P capacities)

lie_shape : (P : List ℕ → ℕ → Type 0) (objects : List Object) (placed : List Placed)
    → AllLieAs P objects placed → map (filled blank) placed ≡ map blanked objects
lie_shape P [] [] lies = refl
lie_shape P [] (q ∷ qs) lies = absurd lies
lie_shape P (o ∷ os) [] lies = absurd lies
lie_shape P (Block bytes ∷ os) (Placeds.Block place size ∷ qs) lies =
    λ i. Block (replicate (lies.0.0 i) 0) ∷ lie_shape P os qs lies.1 i
lie_shape P (Block bytes ∷ os) (Placeds.Mark ∷ qs) lies = absurd lies.0
lie_shape P (Mark ∷ os) (Placeds.Block place size ∷ qs) lies = absurd lies.0
lie_shape P (Mark ∷ os) (Placeds.Mark ∷ qs) lies = ap (λ (l : List Object). Mark ∷ l) (lie_shape P os qs lies.1)

-- an index of a volume has its shape
pub indexes_shape : (P : List ℕ → ℕ → Type 0) (volume : List Part) (parts : List PlacedPart)
    → Indexes P volume parts → IsIndexOf parts volume
indexes_shape P [] [] lies = refl
indexes_shape P [] (q ∷ qs) lies = absurd lies
indexes_shape P (p ∷ ps) [] lies = absurd lies
indexes_shape P (p ∷ ps) (q ∷ qs) lies =
    λ i. record {
      capacity = lies.0 i;
      objects =
          lie_shape P p.objects q.objects lies.1 i;
    } ∷ indexes_shape P ps qs lies.2 i

lie_by : (P Q : List ℕ → ℕ → Type 0) (objects : List Object) (placed : List Placed)
    → ((bytes : List ℕ) (place : ℕ) → P bytes place → Q bytes place) → AllLieAs P objects placed
    → AllLieAs Q objects placed
lie_by P Q [] [] follows lies = tt
lie_by P Q [] (q ∷ qs) follows lies = absurd lies
lie_by P Q (o ∷ os) [] follows lies = absurd lies
lie_by P Q (Block bytes ∷ os) (Placeds.Block place size ∷ qs) follows lies =
    ((lies.0.0, follows bytes place lies.0.1), lie_by P Q os qs follows lies.1)
lie_by P Q (Block bytes ∷ os) (Placeds.Mark ∷ qs) follows lies = absurd lies.0
lie_by P Q (Mark ∷ os) (Placeds.Block place size ∷ qs) follows lies = absurd lies.0
lie_by P Q (Mark ∷ os) (Placeds.Mark ∷ qs) follows lies = (tt, lie_by P Q os qs follows lies.1)

-- an index with a weaker fact
pub indexes_by : (P Q : List ℕ → ℕ → Type 0) (volume : List Part) (parts : List PlacedPart)
    → ((bytes : List ℕ) (place : ℕ) → P bytes place → Q bytes place) → Indexes P volume parts → Indexes Q volume parts
indexes_by P Q [] [] follows lies = tt
indexes_by P Q [] (q ∷ qs) follows lies = absurd lies
indexes_by P Q (p ∷ ps) [] follows lies = absurd lies
indexes_by P Q (p ∷ ps) (q ∷ qs) follows lies =
    (lies.0, lie_by P Q p.objects q.objects follows lies.1, indexes_by P Q ps qs follows lies.2)

lie_take : (P : List ℕ → ℕ → Type 0) (n : ℕ) (objects : List Object) (placed : List Placed)
    → AllLieAs P objects placed → AllLieAs P (take n objects) (take n placed)
lie_take P zero objects placed lies = tt
lie_take P (suc n) [] [] lies = tt
lie_take P (suc n) [] (q ∷ qs) lies = absurd lies
lie_take P (suc n) (o ∷ os) [] lies = absurd lies
lie_take P (suc n) (o ∷ os) (q ∷ qs) lies = (lies.0, lie_take P n os qs lies.1)

lie_append : (P : List ℕ → ℕ → Type 0) (objects others : List Object) (placed more : List Placed)
    → AllLieAs P objects placed → AllLieAs P others more → AllLieAs P (objects ++ others) (placed ++ more)
lie_append P [] others [] more lies also = also
lie_append P [] others (q ∷ qs) more lies also = absurd lies
lie_append P (o ∷ os) others [] more lies also = absurd lies
lie_append P (o ∷ os) others (q ∷ qs) more lies also = (lies.0, lie_append P os others qs more lies.1 also)

lie_marks : (P : List ℕ → ℕ → Type 0) (count : ℕ) → AllLieAs P (replicate count Mark) (replicate count Placeds.Mark)
lie_marks P zero = tt
lie_marks P (suc n) = (tt, lie_marks P n)

lie_added : (P : List ℕ → ℕ → Type 0) (change : Change) (place : ℕ) → LiesAt P change place
    → AllLieAs P (added_by change) (placed_by (record_of change) place)
lie_added P (Put part at block) place here = ((refl, here), tt)
lie_added P (Marks part at count) place here = lie_marks P count
lie_added P (Erase part at) place here = tt

-- one partition is replaced in both
set_one : (P : List ℕ → ℕ → Type 0) (volume : List Part) (parts : List PlacedPart) (number : ℕ)
    (part : Part) (placed : PlacedPart) → Indexes P volume parts
    → placed.capacity ≡ part.capacity → AllLieAs P part.objects placed.objects
    → Indexes P (slice_set volume number part) (slice_set parts number placed)
set_one P [] [] number part placed lies same here = tt
set_one P [] (q ∷ qs) number part placed lies same here = absurd lies
set_one P (p ∷ ps) [] number part placed lies same here = absurd lies
set_one P (p ∷ ps) (q ∷ qs) zero part placed lies same here = (same, here, lies.2)
set_one P (p ∷ ps) (q ∷ qs) (suc n) part placed lies same here =
    (lies.0, lies.1, set_one P ps qs n part placed lies.2 same here)

-- the partitions at a number in both (own)
abbrev BothAt : (List ℕ → ℕ → Type 0) → Option Part → Option PlacedPart → Type 0
BothAt P None None = Unit {0}
BothAt P None (Some placed) = ⊥
BothAt P (Some part) None = ⊥
BothAt P (Some part) (Some placed) = (placed.capacity ≡ part.capacity) × AllLieAs P part.objects placed.objects

both_at : (P : List ℕ → ℕ → Type 0) (volume : List Part) (parts : List PlacedPart) (number : ℕ)
    → Indexes P volume parts → BothAt P (slice_get volume number) (slice_get parts number)
both_at P [] [] number lies = tt
both_at P [] (q ∷ qs) number lies = absurd lies
both_at P (p ∷ ps) [] number lies = absurd lies
both_at P (p ∷ ps) (q ∷ qs) zero lies = (lies.0, lies.1)
both_at P (p ∷ ps) (q ∷ qs) (suc n) lies = both_at P ps qs n lies.2

same_target : (change : Change) → records.record_part (record_of change) ≡ part_of change
same_target (Put part at block) = refl
same_target (Marks part at count) = refl
same_target (Erase part at) = refl

same_staying : (change : Change) → records.record_staying (record_of change) ≡ staying_of change
same_staying (Put part at block) = refl
same_staying (Marks part at count) = refl
same_staying (Erase part at) = refl

-- after a change whose block lies at that place
pub indexes_after : (P : List ℕ → ℕ → Type 0) (volume : List Part) (parts : List PlacedPart) (change : Change)
    (place reserved : ℕ) → LiesAt P change place → Indexes P volume parts
    → Indexes P (changed volume change) (placed_after parts (record_of change) place reserved)
indexes_after P volume parts change place reserved here lies =
    subst (λ (number : ℕ). Indexes P (changed volume change)
    (with_objects parts number
    (take (records.record_staying (record_of change)) (placed_objects parts number) ++ placed_by (record_of change)
    place)
    reserved)) (sym (same_target change))
    (by (slice_get volume (part_of change)) (slice_get parts (part_of change))
    (both_at P volume parts (part_of change) lies))
  where
    by : (part : Option Part) (placed : Option PlacedPart) → BothAt P part placed
        → Indexes P (changed_in part volume change) (with_objects_in placed parts (part_of change)
        (take (records.record_staying (record_of change)) (placed_objects_in placed) ++ placed_by
        (record_of change) place) reserved)
    by None None both = lies
    by None (Some q) both = absurd both
    by (Some p) None both = absurd both
    by (Some p) (Some q) both =
        set_one P volume parts (part_of change) (part_after p change) (record {
          capacity = q.capacity;
          objects = take (records.record_staying (record_of change)) q.objects ++ placed_by (record_of change) place;
          reserved = reserved;
        }) lies both.0
        (lie_append P (take (staying_of change) p.objects) (added_by change)
        (take (records.record_staying (record_of change)) q.objects) (placed_by (record_of change) place)
        (subst (λ (n : ℕ). AllLieAs P (take (staying_of change) p.objects) (take n q.objects)) (sym (same_staying
        change))
        (lie_take P (staying_of change) p.objects q.objects both.1))
        (lie_added P change place here))

written : (xs : List Part) (k : ℕ) (x : Part) → slice_get xs k ≡ Some x → slice_set xs k x ≡ xs
written [] k x is = absurd (cc)
written (y ∷ xs) zero x is = (let same : x ≡ y = cc in λ i. same i ∷ xs)
written (y ∷ xs) (suc k) x is = ap (λ (l : List Part). y ∷ l) (written xs k x is)

-- after a reservation
pub indexes_reserved : (P : List ℕ → ℕ → Type 0) (volume : List Part) (parts : List PlacedPart) (number reserved : ℕ)
    → Indexes P volume parts → Indexes P volume (with_objects parts number (placed_objects parts number) reserved)
indexes_reserved P volume parts number reserved lies =
    by (slice_get volume number) (slice_get parts number) refl (both_at P volume parts number lies)
  where
    by : (part : Option Part) (placed : Option PlacedPart) → slice_get volume number ≡ part → BothAt P part placed
        → Indexes P volume (with_objects_in placed parts number (placed_objects_in placed) reserved)
    by None None is both = lies
    by None (Some q) is both = absurd both
    by (Some p) None is both = absurd both
    by (Some p) (Some q) is both =
        subst (λ (v : List Part). Indexes P v (slice_set parts number (record {
          capacity = q.capacity;
          objects = q.objects;
          reserved = reserved;
        }))) (written volume number p is)
        (set_one P volume parts number p
        (record { capacity = q.capacity; objects = q.objects; reserved = reserved }) lies
        both.0 both.1)

-- a block of the index is a block of the volume with that length, and P holds of its bytes and place
block_lies : (P : List ℕ → ℕ → Type 0) (objects : List Object) (placed : List Placed) (at place size : ℕ)
    → AllLieAs P objects placed → slice_get placed at ≡ Some (Placeds.Block place size)
    → (bytes : List ℕ) × (slice_get objects at ≡ Some (Block bytes)) × (size ≡ length bytes) × P bytes place
block_lies P [] [] at place size lies there = absurd (cc)
block_lies P [] (q ∷ qs) at place size lies there = absurd lies
block_lies P (o ∷ os) [] at place size lies there = absurd lies
block_lies P (o ∷ os) (q ∷ qs) (suc n) place size lies there = block_lies P os qs n place size lies.1 there
block_lies P (Block bytes ∷ os) (Placeds.Block p s ∷ qs) zero place size lies there =
    let placed : Placeds.Block p s ≡ Placeds.Block place size = cc in
    let same_place : p ≡ place = cc in
    let same_size : s ≡ size = cc in
    (bytes, refl, sym same_size ∙ lies.0.0, subst (P bytes) same_place lies.0.1)
block_lies P (Block bytes ∷ os) (Placeds.Mark ∷ qs) zero place size lies there = absurd lies.0
block_lies P (Mark ∷ os) (Placeds.Block p s ∷ qs) zero place size lies there = absurd lies.0
block_lies P (Mark ∷ os) (Placeds.Mark ∷ qs) zero place size lies there =
    absurd (let other : Placeds.Mark ≡ Placeds.Block place size = cc in cc)

-- a block of the index is a block of the volume with that length, and P holds of its bytes and place
pub indexes_block : (P : List ℕ → ℕ → Type 0) (volume : List Part) (parts : List PlacedPart) (number at place size : ℕ)
    → Indexes P volume parts → slice_get (placed_objects parts number) at ≡ Some (Placeds.Block place size)
    → (bytes : List ℕ) × (block_at volume number at ≡ Some bytes) × (size ≡ length bytes) × P bytes place
indexes_block P volume parts number at place size lies there =
    by (slice_get volume number) (slice_get parts number) (both_at P volume parts number lies) there
  where
    by : (part : Option Part) (placed : Option PlacedPart) → BothAt P part placed
        → slice_get (placed_objects_in placed) at ≡ Some (Placeds.Block place size)
        → (bytes : List ℕ) × (block_in (slice_get (objects_in part) at) ≡ Some bytes) ×
        (size ≡ length bytes) × P bytes place
    by None None both is = absurd (cc)
    by None (Some q) both is = absurd both
    by (Some p) None both is = absurd both
    by (Some p) (Some q) both is =
        let found = block_lies P p.objects q.objects at place size both.1 is in
        (found.0, ap block_in found.1, found.2, found.3)
