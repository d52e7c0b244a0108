-- The end of a copy.
use Rattle.std.proofs.Common.{◌≡◌, ℕ, ◌<◌, ◌≤◌, List, [], length, ◌⊎◌, inl, inr, true, false, leb}
use Rattle.std.specs.Prelude.{None, slice_get}
use Rattle.std.proofs.lemmas.Bool.Decides.{leb_tells}
use Rattle.std.proofs.lemmas.Option.{slice_get-get_or}
use Rattle.object_index.specs.declared.places.Placed.TheVariants.{Mark}
use Rattle.object_index.specs.Places.{PlacedPart, placed_objects}
use Rattle.volume_copy.specs.Entries.{entries_from}
use Rattle.volume_copy.specs.EntryFacts.{all_ended}

-- there is no object, and none would be passed over
pub nothing_more : (parts : List PlacedPart) (part at : ℕ) → slice_get (placed_objects parts part) at ≡ None
    → (part < length parts → at < length (placed_objects parts part)) → entries_from parts part at ≡ []
nothing_more parts part at none inside = by (leb_tells (length parts) part)
  where
    by : ((leb (length parts) part ≡ true) × (length parts ≤ part))
        ⊎ ((leb (length parts) part ≡ false) × (part < length parts)) → entries_from parts part at ≡ []
    by (inl past) = all_ended parts part at past.1
    by (inr there) =
        let found = slice_get-get_or (placed_objects parts part) at Mark (inside there.1) in absurd (cc)
