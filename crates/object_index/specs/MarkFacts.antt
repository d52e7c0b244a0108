-- Facts about filemarks that do not depend on the bytes of blocks, and the filemarks of an index: lemmas, for the
-- crates above too.
use Rattle.std.specs.Prelude.{◌≡◌, ◌+◌, ℕ, List, [], ◌∷◌, take, map, Option, None, Some, slice_get, refl}
use Rattle.std.specs.Option.{option_map}
use Rattle.std.proofs.Common.{ap, sym, ◌∙◌}
use Rattle.std.proofs.lemmas.List.{take-map}
use Rattle.std.proofs.lemmas.List.Sums.{sum_by-cons}
use Rattle.std.proofs.lemmas.Option.{slice_get-map}
use Rattle.volume_core.specs.declared.objects.Object.{Object}
use Rattle.volume_core.specs.declared.objects.Object.TheVariants.{Block, Mark}
use Rattle.volume_core.specs.Volume.{IsMarkOf, Part, kind_at, mark_count, marks_in, marks_upto, objects_in, objects_of}
use Rattle.object_index.specs.declared.places.Placed.{Placed}
use Rattle.object_index.specs.declared.places.Placed.TheVariants as Placeds
use Rattle.object_index.specs.MarkRuns.{placed_marks}
use Rattle.object_index.specs.Places.{PlacedPart, blank, filled, filled_part, outline, placed_objects, placed_objects_in}
use Rattle.object_index.specs.Shapes.{blanked, shape_of}
use Rattle.object_index.specs.Facts.{kind_by_shape, objects_by_shape}

marks_blanked : (objects : List Object) → marks_in (map blanked objects) ≡ marks_in objects
marks_blanked [] = refl
marks_blanked (Block bytes ∷ objects) =
    sum_by-cons _ (blanked (Block bytes)) (map blanked objects)
    ∙ ap (λ (n : ℕ). 0 + n) (marks_blanked objects)
    ∙ sym (sum_by-cons _ (Block bytes) objects)
marks_blanked (Mark ∷ objects) =
    sum_by-cons _ Mark (map blanked objects)
    ∙ ap (λ (n : ℕ). 1 + n) (marks_blanked objects)
    ∙ sym (sum_by-cons _ Mark objects)

-- a shape has as many filemarks as the volume (own)
pub mark_count_by_shape : (volume : List Part) (number : ℕ) → mark_count (shape_of volume) number
    ≡ mark_count volume number
mark_count_by_shape volume number =
    ap marks_in (objects_by_shape volume number) ∙ marks_blanked (objects_of volume number)

-- the same among the first objects (own)
pub marks_by_shape : (volume : List Part) (number n : ℕ)
    → marks_upto (shape_of volume) number n ≡ marks_upto volume number n
marks_by_shape volume number n =
    ap (λ (objects : List Object). marks_in (take n objects)) (objects_by_shape volume number)
    ∙ ap marks_in (take-map blanked n (objects_of volume number))
    ∙ marks_blanked (take n (objects_of volume number))

-- a filemark has the same number in the shape (own)
pub mark_of_by_shape : (volume : List Part) (number k at : ℕ) → IsMarkOf (shape_of volume) number k at
    → IsMarkOf volume number k at
mark_of_by_shape volume number k at mark = record {
  mark = sym (kind_by_shape volume number at) ∙ mark.mark;
  before = sym (marks_by_shape volume number at) ∙ mark.before;
}

-- the objects of an outline are those of the index, with bytes 00h (own)
pub objects_outlined : (parts : List PlacedPart) (number : ℕ)
    → objects_of (outline parts) number ≡ map (filled blank) (placed_objects parts number)
objects_outlined parts number =
    ap objects_in (slice_get-map (filled_part blank) parts number) ∙ of_it (slice_get parts number)
  where
    of_it : (part : Option PlacedPart)
        → objects_in (option_map (filled_part blank) part) ≡ map (filled blank) (placed_objects_in part)
    of_it None = refl
    of_it (Some part) = refl

marks_filled : (objects : List Placed) → marks_in (map (filled blank) objects) ≡ placed_marks objects
marks_filled [] = refl
marks_filled (Placeds.Block place size ∷ objects) =
    sum_by-cons _ (filled blank (Placeds.Block place size)) (map (filled blank) objects)
    ∙ ap (λ (n : ℕ). 0 + n) (marks_filled objects)
    ∙ sym (sum_by-cons _ (Placeds.Block place size) objects)
marks_filled (Placeds.Mark ∷ objects) =
    sum_by-cons _ Mark (map (filled blank) objects)
    ∙ ap (λ (n : ℕ). 1 + n) (marks_filled objects)
    ∙ sym (sum_by-cons _ Placeds.Mark objects)

-- an outline has as many filemarks as the index (own)
pub mark_count_outlined : (parts : List PlacedPart) (number : ℕ)
    → mark_count (outline parts) number ≡ placed_marks (placed_objects parts number)
mark_count_outlined parts number =
    ap marks_in (objects_outlined parts number) ∙ marks_filled (placed_objects parts number)

-- the same among the first objects (own)
pub marks_outlined : (parts : List PlacedPart) (number n : ℕ)
    → marks_upto (outline parts) number n ≡ placed_marks (take n (placed_objects parts number))
marks_outlined parts number n =
    ap (λ (objects : List Object). marks_in (take n objects)) (objects_outlined parts number)
    ∙ ap marks_in (take-map (filled blank) n (placed_objects parts number))
    ∙ marks_filled (take n (placed_objects parts number))
