-- An index grows, and takes changes.
use Rattle.std.proofs.Common.{◌≡◌, ℕ, zero, suc, ◌≤◌, List, [], ◌∷◌, length, map, Option, None, Some, refl, sym, ◌∙◌, ap, subst, arith}
use Rattle.std.specs.Prelude.{slice_get, slice_set, slice_index_or}
use Rattle.volume_core.specs.Volume.{Part}
use Rattle.object_index.specs.Places.{PlacedPart, placed_objects, placed_objects_in, reserved_in, reserved_of, with_objects, with_objects_in}
use Rattle.object_index.specs.Indexes.{AllLieAs, Indexes}
use Rattle.cartridge.specs.Inner.Growing.{IsGrown}

pub grown_same : (index : List PlacedPart) → IsGrown index index
grown_same [] = tt
grown_same (p ∷ ps) = ((refl, refl, omega arith), grown_same ps)

pub grown_length : (old new : List PlacedPart) → IsGrown old new → length new ≡ length old
grown_length [] [] grown = refl
grown_length (p ∷ ps) (q ∷ qs) grown = ap suc (grown_length ps qs grown.1)
grown_length [] (q ∷ qs) grown = absurd grown
grown_length (p ∷ ps) [] grown = absurd grown

pub grown_then : (a b c : List PlacedPart) → IsGrown a b → IsGrown b c → IsGrown a c
grown_then [] [] [] one two = tt
grown_then (p ∷ ps) (q ∷ qs) (r ∷ rs) one two =
    ((two.0.0 ∙ one.0.0, two.0.1 ∙ one.0.1, omega (arith, one.0.2, two.0.2)), grown_then ps qs rs one.1 two.1)
grown_then [] (q ∷ qs) c one two = absurd one
grown_then (p ∷ ps) [] c one two = absurd one
grown_then [] [] (r ∷ rs) one two = absurd two
grown_then (p ∷ ps) (q ∷ qs) [] one two = absurd two

-- a reservation
set_grown : (index : List PlacedPart) (part reserved : ℕ) (p : PlacedPart) → slice_get index part ≡ Some p
    → p.reserved ≤ reserved
    → IsGrown index (slice_set index part (record { capacity = p.capacity; objects = p.objects; reserved = reserved }))
set_grown [] part reserved p is le = absurd (cc)
set_grown (q ∷ qs) zero reserved p is le =
    let same : q ≡ p = cc in (
      (
        ap (λ (x : PlacedPart). x.capacity) (sym same),
        ap (λ (x : PlacedPart). x.objects) (sym same),
        omega (arith, le, ap (λ (x : PlacedPart). x.reserved) same),
      ),
      grown_same qs,
    )
set_grown (q ∷ qs) (suc n) reserved p is le = ((refl, refl, omega arith), set_grown qs n reserved p is le)

pub reserve_grown : (index : List PlacedPart) (part reserved : ℕ) → reserved_of index part ≤ reserved
    → IsGrown index (with_objects index part (placed_objects index part) reserved)
reserve_grown index part reserved le = by (slice_get index part) refl
  where
    by : (found : Option PlacedPart) → slice_get index part ≡ found
        → IsGrown index (with_objects_in (slice_get index part) index part (placed_objects_in (slice_get index part))
        reserved)
    by None is = subst (λ (f : Option PlacedPart). IsGrown index (with_objects_in f index part (placed_objects_in f)
        reserved))
        (sym is) (grown_same index)
    by (Some p) is = subst (λ (f : Option PlacedPart). IsGrown index (with_objects_in f index part (placed_objects_in
        f) reserved))
        (sym is) (set_grown index part reserved p is (subst (λ (f : Option PlacedPart). reserved_in f ≤ reserved) is
        le))

pub grown_reserved : (old new : List PlacedPart) (part : ℕ) → IsGrown old new → reserved_of old part ≤ reserved_of
    new part
grown_reserved [] [] part grown = omega arith
grown_reserved (p ∷ ps) (q ∷ qs) zero grown = grown.0.2
grown_reserved (p ∷ ps) (q ∷ qs) (suc n) grown = grown_reserved ps qs n grown.1
grown_reserved [] (q ∷ qs) part grown = absurd grown
grown_reserved (p ∷ ps) [] part grown = absurd grown

-- what was an index of a volume still is
pub grown_lies : (P : List ℕ → ℕ → Type 0) (volume : List Part) (old new : List PlacedPart) → IsGrown old new
    → Indexes P volume old → Indexes P volume new
grown_lies P [] [] [] grown lies = tt
grown_lies P (v ∷ vs) (p ∷ ps) (q ∷ qs) grown lies =
    (grown.0.0 ∙ lies.0, subst (AllLieAs P v.objects) (sym grown.0.1) lies.1, grown_lies P vs ps qs grown.1 lies.2)
grown_lies P volume [] (q ∷ qs) grown lies = absurd grown
grown_lies P volume (p ∷ ps) [] grown lies = absurd grown
grown_lies P [] (p ∷ ps) (q ∷ qs) grown lies = absurd lies
grown_lies P (v ∷ vs) [] [] grown lies = absurd lies

-- the row of what is reserved says of each partition how much it is
pub entries_at : (index : List PlacedPart) (part : ℕ)
    → slice_index_or (map (λ (p : PlacedPart). p.reserved) index) part 0 ≡ reserved_of index part
entries_at [] part = refl
entries_at (p ∷ ps) zero = refl
entries_at (p ∷ ps) (suc n) = entries_at ps n

-- an index has as many partitions as the volume
pub same_parts : (P : List ℕ → ℕ → Type 0) (volume : List Part) (index : List PlacedPart) → Indexes P volume index
    → length index ≡ length volume
same_parts P [] [] lies = refl
same_parts P (v ∷ vs) (p ∷ ps) lies = ap suc (same_parts P vs ps lies.2)
same_parts P [] (p ∷ ps) lies = absurd lies
same_parts P (v ∷ vs) [] lies = absurd lies
