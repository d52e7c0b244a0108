-- A new ring for each drive of a library.
use Rattle.std.specs.Prelude.{◌≡◌, ◌-◌, ℕ, List, Option, None, slice_index_or}
use Rattle.split_bay.specs.Rings.{Sender}

-- the ring of the drive of this number, from 1 on, if it has one (own)
abbrev pub ring_at : List (Option Sender) → ℕ → Option Sender
ring_at rings number = slice_index_or rings (number - 1) None

-- the rings of a row are those that this gives for the drives' numbers (own)
abbrev pub AreRings : (ℕ → Option Sender) → List (Option Sender) → Type 0
AreRings ring rings = ring ≡ ring_at rings
