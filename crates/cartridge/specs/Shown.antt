-- What a catalog of a volume shows as changes are entered into it.
use Rattle.std.specs.Prelude.{◌≡◌, ◌≤◌, List, Option, None, Some, ℕ}
use Rattle.volume_core.specs.declared.changes.Change.{Change}
use Rattle.volume_core.specs.Volume.{Part, part_of, refusal_of}
use Rattle.object_index.specs.Places.{PlacedPart, reserved_of}
use Rattle.object_index.specs.Shapes.{IsIndexOf}
use Rattle.cartridge.specs.Inner.Growing.{HasEntries, IsGrown, LacksEntries}

-- a volume that an index shows does not refuse the change, and the index has room for it (own)
pub record MayEnter (parts : List PlacedPart) (volume : List Part) (change : Change) : Type 0 where
  pub shows : IsIndexOf parts volume
  pub none : refusal_of volume change ≡ None
  pub roomy : 1 ≤ reserved_of parts (part_of change)

-- a catalog, if there is one, is as it was, and no less is reserved (own)
abbrev pub IsGrownIn : Option (List PlacedPart) → Option (List PlacedPart) → Type 0
IsGrownIn None None = Unit {0}
IsGrownIn (Some old) (Some new) = IsGrown old new
IsGrownIn _ _ = ⊥

-- in each partition of a catalog, if there is one, this much is reserved (own)
abbrev pub HasEntriesIn : Option (List PlacedPart) → ℕ → Type 0
HasEntriesIn None entries = Unit {0}
HasEntriesIn (Some parts) entries = HasEntries parts entries

-- there is a catalog, and in some partition of it less is reserved (own)
abbrev pub LacksEntriesIn : Option (List PlacedPart) → ℕ → Type 0
LacksEntriesIn None entries = ⊥
LacksEntriesIn (Some parts) entries = LacksEntries parts entries
