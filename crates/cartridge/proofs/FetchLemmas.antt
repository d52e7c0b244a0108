-- A block is found by the index, and read.
use Rattle.std.proofs.Common.{◌≡◌, ℕ, zero, suc, ◌≤◌, ◌+◌, List, [], ◌∷◌, ◌++◌, length, take, drop, map, replicate, Option, None, Some, refl, sym, ◌∙◌, ap, arith}
use Rattle.std.specs.Prelude.{slice_get, slice_index_or, slice_range}
use Rattle.std.specs.Option.{option_map}
use Rattle.std.specs.List.{All}
use Rattle.std.proofs.lemmas.List.{append-nil, drop_all, length-replicate, length-take, take_all}
use Rattle.std.proofs.lemmas.List.Elements.{All-head, All-tail}
use Rattle.std.proofs.lemmas.Option.{slice_get-map}
use Rattle.volume_core.specs.declared.objects.Object.{Object}
use Rattle.volume_core.specs.declared.objects.Object.TheVariants.{Block}
use Rattle.volume_core.specs.declared.objects.Kind.TheVariants as Kinds
use Rattle.volume_core.specs.Volume.{IsObject, IsPart, Part, kind_at, kind_in, objects_in, objects_of}
use Rattle.gate_journal.specs.State.{IsBodyPart, LiesInBody}
use Rattle.object_index.specs.declared.places.Placed.{Placed}
use Rattle.object_index.specs.declared.places.Placed.TheVariants as Placeds
use Rattle.object_index.specs.Places.{PlacedPart, blank, filled, filled_part, outline, placed_objects, placed_objects_in}
use Rattle.object_index.specs.Shapes.{IsIndexOf}
use Rattle.object_index.specs.Facts.{kind_by_shape}
use Rattle.cartridge.specs.Lying.{LiesIn}

outline_objects : (index : List PlacedPart) (part : ℕ)
    → objects_of (outline index) part ≡ map (filled blank) (placed_objects index part)
outline_objects index part = ap objects_in (slice_get-map (filled_part blank) index part) ∙ of_it (slice_get index part)
  where
    of_it : (found : Option PlacedPart)
        → objects_in (option_map (filled_part blank) found) ≡ map (filled blank) (placed_objects_in found)
    of_it None = refl
    of_it (Some p) = refl

-- what the index has there shows the kind
pub kind_decoded : (index : List PlacedPart) (volume : List Part) (part at : ℕ) (found : Option Placed)
    → IsIndexOf index volume → slice_get (placed_objects index part) at ≡ found
    → kind_at volume part at ≡ kind_in (option_map (filled blank) found)
kind_decoded index volume part at found shape is =
    sym (kind_by_shape volume part at) ∙ ap (λ (v : List Part). kind_at v part at) (sym shape)
    ∙ ap (λ (objects : List Object). kind_in (slice_get objects at)) (outline_objects index part)
    ∙ ap kind_in (slice_get-map (filled blank) (placed_objects index part) at)
    ∙ ap (λ (o : Option Placed). kind_in (option_map (filled blank) o)) is

-- where the volume has a block, the index has neither nothing nor a mark
pub not_none : (index : List PlacedPart) (volume : List Part) (part at : ℕ) → IsIndexOf index volume
    → slice_get (placed_objects index part) at ≡ None → kind_at volume part at ≡ Some Kinds.Block → ⊥
not_none index volume part at shape is block =
    let e = sym (kind_decoded index volume part at None shape is) ∙ block in cc

pub not_a_mark : (index : List PlacedPart) (volume : List Part) (part at : ℕ) → IsIndexOf index volume
    → slice_get (placed_objects index part) at ≡ Some Placeds.Mark → kind_at volume part at ≡ Some Kinds.Block → ⊥
not_a_mark index volume part at shape is block =
    let e = sym (kind_decoded index volume part at (Some Placeds.Mark) shape is) ∙ block in cc

object_short : (objects : List Placed) (at place size : ℕ) → All IsObject (map (filled blank) objects)
    → slice_get objects at ≡ Some (Placeds.Block place size) → size ≤ 1048576
object_short [] at place size all is = absurd (cc)
object_short (Placeds.Block p n ∷ os) zero place size all is =
    let fits = All-head IsObject (Block (replicate n 0)) (map (filled blank) os) all in
    let same : n ≡ size = cc in
    omega (arith, fits.1, length-replicate {A = ℕ} n 0, same)
object_short (Placeds.Mark ∷ os) zero place size all is = absurd (cc)
object_short (o ∷ os) (suc k) place size all is =
    object_short os k place size (All-tail IsObject (filled blank o) (map (filled blank) os) all) is

-- a block of the index is no longer than a block may be
pub block_short : (index : List PlacedPart) (part at place size : ℕ) → All IsPart (outline index)
    → slice_get (placed_objects index part) at ≡ Some (Placeds.Block place size) → size ≤ 1048576
block_short [] part at place size all is = absurd (cc)
block_short (p ∷ ps) zero at place size all is =
    object_short p.objects at place size (All-head IsPart (filled_part blank p) (outline ps) all).well_formed is
block_short (p ∷ ps) (suc n) at place size all is =
    block_short ps n at place size (All-tail IsPart (filled_part blank p) (outline ps) all) is

-- where a block lies can be read
pub can_be_read : (bodies : List (List ℕ)) (extents : List (ℕ × ℕ)) (block : List ℕ) (place count : ℕ)
    → LiesIn bodies extents block place → count ≡ length block → LiesInBody extents place count
can_be_read bodies extents block place count lies is =
    (lies.0, lies.2, omega (arith, lies.3), omega (arith, lies.3, lies.4, is))

-- what is read there is the block
pub read_is : (bodies found : List (List ℕ)) (extents : List (ℕ × ℕ)) (block : List ℕ) (place : ℕ) (bytes : List ℕ)
    → LiesIn bodies extents block place → found ≡ bodies → length bytes ≡ length block
    → IsBodyPart found extents place bytes → bytes ≡ block
read_is bodies found extents block place bytes lies same long read =
    read lies.0 lies.1 lies.2 lies.3 (omega (arith, lies.4, long))
    ∙ (λ i. slice_range (slice_index_or (same i) lies.0 []) lies.1 (lies.1 + long i))
    ∙ sym lies.5

-- a buffer that was filled whole
pub filled_whole : (count : ℕ) (bytes items : List ℕ) → length bytes ≡ count → length items ≡ count
    → take count (bytes ++ drop (length bytes) items) ≡ bytes
filled_whole count bytes items long same =
    ap (λ (l : List ℕ). take count (bytes ++ l)) (drop_all (length bytes) items (omega (arith, long, same)))
    ∙ ap (take count) (append-nil bytes) ∙ take_all count bytes (omega (arith, long))

-- the first so many are no more than that
pub length-take-le-whole : (n : ℕ) (l : List ℕ) → length (take n l) ≤ n
length-take-le-whole n l = omega (arith, length-take n l)
