-- What an inventory shows at the element addresses of a library.
use Rattle.std.specs.Prelude.{Bool, true, false, Option, None, Some}
use Rattle.drive_commands.specs.State.{medium_in}
use Rattle.split_bay.specs.Fronts.{FrontState}
use Rattle.library.specs.declared.inventories.Element.{Element}
use Rattle.library.specs.declared.inventories.Element.TheVariants.{Missing, Empty, Full}

module _ {X : Type 0} where
  -- the element of a place that exists (own)
  abbrev pub seen_at : Option X → Element
  seen_at None = Empty
  seen_at (Some x) = Full

module _ {D : Type 0} where
  -- the element of a drive, by its hosts' half, if there is one (own)
  abbrev pub seen_of_front : Option (FrontState D) → Element
  seen_of_front None = Missing
  seen_of_front (Some front) = seen_at (medium_in front.drive.bay)

-- the element shows that the place exists (own)
abbrev pub is_place_seen : Element → Bool
is_place_seen Missing = false
is_place_seen _ = true
