-- An index in which memory is reserved shows the same volume.
use Rattle.std.proofs.Common.{◌≡◌, ℕ, zero, suc, List, [], ◌∷◌, length, Option, None, Some, refl, ◌∙◌, ap, arith}
use Rattle.std.specs.Prelude.{slice_get, slice_set}
use Rattle.std.proofs.lemmas.List.{length-map}
use Rattle.volume_core.specs.Volume.{Part}
use Rattle.object_index.specs.Places.{PlacedPart, blank, filled_part, outline, placed_objects, placed_objects_in, with_objects, with_objects_in}
use Rattle.object_index.specs.Shapes.{IsIndexOf, shape_of_part}

-- it has as many partitions as the volume
pub as_many_parts : (parts : List PlacedPart) (volume : List Part) → IsIndexOf parts volume
    → length parts ≡ length volume
as_many_parts parts volume is =
    omega (
      arith,
      ap (λ (v : List Part). length v) is,
      length-map parts (filled_part blank),
      length-map volume shape_of_part,
    )

outline_set : (index : List PlacedPart) (part reserved : ℕ) (p : PlacedPart) → slice_get index part ≡ Some p
    → outline (slice_set index part (record { capacity = p.capacity; objects = p.objects; reserved = reserved }))
    ≡ outline index
outline_set [] part reserved p is = absurd (cc)
outline_set (q ∷ qs) zero reserved p is =
    let same : p ≡ q = cc in
    ap (λ (x : PlacedPart). filled_part blank x ∷ outline qs) same
outline_set (q ∷ qs) (suc n) reserved p is =
    ap (λ (v : List Part). filled_part blank q ∷ v) (outline_set qs n reserved p is)

outline_reserved : (index : List PlacedPart) (part reserved : ℕ)
    → outline (with_objects index part (placed_objects index part) reserved) ≡ outline index
outline_reserved index part reserved = by (slice_get index part) refl
  where
    by : (found : Option PlacedPart) → slice_get index part ≡ found
        → outline (with_objects_in found index part (placed_objects_in found) reserved) ≡ outline index
    by None is = refl
    by (Some p) is = outline_set index part reserved p is

-- memory is reserved in one partition
pub shown_reserved : (old new : List PlacedPart) (volume : List Part) (part reserved : ℕ)
    → new ≡ with_objects old part (placed_objects old part) reserved → IsIndexOf old volume → IsIndexOf new volume
shown_reserved old new volume part reserved is shows = ap outline is ∙ outline_reserved old part reserved ∙ shows
