-- A copy of an index shows the same volume.
use Rattle.std.proofs.Common.{◌≡◌, List, [], ◌∷◌, Result, Ok, Err, map, refl, ◌∙◌, ap}
use Rattle.std.specs.Prelude.{IfOk}
use Rattle.volume_core.specs.Volume.{Part}
use Rattle.object_index.specs.Places.{PlacedPart, blank, filled_part, outline, unreserved}
use Rattle.object_index.specs.Shapes.{IsIndexOf, shape_of}

-- what is reserved shows nothing
pub unreserved_outline : (parts : List PlacedPart) → outline (map unreserved parts) ≡ outline parts
unreserved_outline [] = refl
unreserved_outline (part ∷ parts) = ap (λ (l : List Part). filled_part blank part ∷ l) (unreserved_outline parts)

pub catalog_of : {E : Type 0} (result : Result (List PlacedPart) E) (parts : List PlacedPart) (volume : List Part)
    → IfOk result (λ copy. copy ≡ map unreserved parts) → outline parts ≡ shape_of volume
    → IfOk result (λ copy. IsIndexOf copy volume)
catalog_of (Ok copy) parts volume is shape = ap outline is ∙ unreserved_outline parts ∙ shape
catalog_of (Err error) parts volume is shape = tt
