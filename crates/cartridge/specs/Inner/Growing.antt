-- How an index makes room for changes, and what these take of it.
use Rattle.std.specs.Prelude.{◌≡◌, ◌<◌, ◌≤◌, ◌+◌, ℕ, List, [], ◌∷◌, length, sum_by}
use Rattle.volume_core.specs.declared.changes.Change.{Change}
use Rattle.gate_journal.specs.State.{OpenSide}
use Rattle.object_index.specs.Places.{PlacedPart, reserved_of}
use Rattle.cartridge.specs.Answers.{entries_of}

-- the partitions are as they were, and no less is reserved in each (own)
abbrev pub IsGrown : List PlacedPart → List PlacedPart → Type 0
IsGrown [] [] = Unit {0}
IsGrown (old ∷ olds) (new ∷ news) =
    ((new.capacity ≡ old.capacity) × (new.objects ≡ old.objects) × (old.reserved ≤ new.reserved)) × IsGrown olds news
IsGrown [] (new ∷ news) = ⊥
IsGrown (old ∷ olds) [] = ⊥

-- in each partition enough is reserved for these changes (own)
abbrev pub HasEnoughReserved : List PlacedPart → List Change → Type 0
HasEnoughReserved index changes = (part : ℕ) → sum_by (entries_of part) changes ≤ reserved_of index part

-- in each partition that is there enough is reserved for these changes (own)
abbrev pub HasRoomWithin : List PlacedPart → List Change → Type 0
HasRoomWithin index changes =
    (part : ℕ) → part < length index → sum_by (entries_of part) changes ≤ reserved_of index part

-- in each partition that is there this much is reserved (own)
abbrev pub HasEntries : List PlacedPart → ℕ → Type 0
HasEntries index entries = (part : ℕ) → part < length index → entries ≤ reserved_of index part

-- in some partition less is reserved (own)
abbrev pub LacksEntries : List PlacedPart → ℕ → Type 0
LacksEntries index entries = (part : ℕ) × (part < length index) × (reserved_of index part < entries)

-- of what was reserved in each partition these changes have taken their entries at most (own)
abbrev pub TakesEntries : List PlacedPart → List Change → List PlacedPart → Type 0
TakesEntries old changes new =
    (part : ℕ) → reserved_of old part ≤ reserved_of new part + sum_by (entries_of part) changes

-- an open side is as it was, and no less is reserved (own)
pub record IsSameSide {D : Type 0} (old new : OpenSide D) : Type 0 where
  pub disk : new.disk ≡ old.disk
  pub front : new.front ≡ old.front
  pub bodies : new.bodies ≡ old.bodies
  pub extents : new.extents ≡ old.extents
  pub end : new.end ≡ old.end
  pub failed : new.failed ≡ old.failed
  pub reserved : old.reserved_extents ≤ new.reserved_extents
