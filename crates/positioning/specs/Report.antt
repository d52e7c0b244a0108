-- What READ POSITION says of a position.
use Rattle.std.specs.Prelude.{◌==◌, ◌+◌, ◌++◌, ℕ, List, [], ◌∷◌, Bool, if◌then◌else◌}
use Rattle.std.specs.Int.{to_be_bytes, w32}
use Rattle.volume_core.specs.Volume.{Part, capacity_of, is_in_early_zone, used_up_to}
use Rattle.positioning.specs.declared.positions.Pos.{Pos}

-- BOP: the position is at the beginning of its partition (SSC-4, READ POSITION)
abbrev pub is_beginning : Pos → Bool
is_beginning position = position.obj == 0

-- EOP: the objects before the position reach into the last sixteenth of the capacity
-- (SSC-4, READ POSITION; the zone own)
abbrev pub is_near_end : List Part → Pos → Bool
is_near_end volume position =
    is_in_early_zone (capacity_of volume position.part)
    (used_up_to volume position.part position.obj)

-- byte 0: bit 7 is BOP, bit 6 EOP; no other is set, since nothing is buffered (SSC-4, READ POSITION)
abbrev pub flags_of : List Part → Pos → ℕ
flags_of volume position =
    (if is_beginning position then 0x80 else 0) + (if is_near_end volume position then 0x40 else 0)

-- the object number, in 4 bytes, the highest first (SSC-4, READ POSITION)
abbrev pub object_number : Pos → List ℕ
object_number position = to_be_bytes w32 position.obj

-- the 20 bytes: flags, partition, 2 reserved; first and last logical object location, which are the same where nothing
-- is buffered; a reserved byte, and the objects and bytes in the buffer (SSC-4, READ POSITION)
abbrev pub report_of : List Part → Pos → List ℕ
report_of volume position =
    flags_of volume position ∷ position.part ∷ 0 ∷ 0 ∷ []
    ++ object_number position
    ++ object_number position
    ++ 0 ∷ 0 ∷ 0 ∷ 0 ∷ 0 ∷ 0 ∷ 0 ∷ 0 ∷ []
