-- Where the blocks of a side lie.
use Rattle.std.specs.Prelude.{◌≡◌, ◌<◌, ◌≤◌, ◌+◌, ℕ, List, [], length, slice_index_or, slice_range}
use Rattle.vtl_base.specs.declared.layout.TheConstants.{RECORD_HEAD}
use Rattle.change_records.specs.declared.records.Record.{Record}
use Rattle.change_records.specs.declared.records.Record.TheVariants as Records
use Rattle.cartridge.specs.Contents.{bodies_of}
use Rattle.cartridge.specs.Notes.{Notes}

-- the block is a part of one of the bodies, and its place is as far into that body's extent (own)
abbrev pub LiesIn : List (List ℕ) → List (ℕ × ℕ) → List ℕ → ℕ → Type 0
LiesIn bodies extents block place =
    (frame : ℕ) × (into : ℕ) × (frame < length extents)
    × (place ≡ (slice_index_or extents frame (0, 0)).0 + into)
    × (into + length block ≤ (slice_index_or extents frame (0, 0)).1)
    × (block ≡ slice_range (slice_index_or bodies frame []) into (into + length block))
    × (frame < length bodies)

-- where the blocks of a side lie: each in the body of a frame (own)
abbrev pub LiesOnSide : Notes → List (ℕ × ℕ) → List ℕ → ℕ → Type 0
LiesOnSide notes extents = LiesIn (bodies_of notes.frames) extents

-- a record's block has a byte, where it has a block (own)
abbrev pub HasBlock : Record → Type 0
HasBlock (Records.Put part at count) = 1 ≤ count
HasBlock (Records.Marks part at count) = Unit {0}
HasBlock (Records.Erase part at) = Unit {0}

-- the block of a record that begins at that place lies behind its ten bytes; a record with no block lies anywhere (own)
abbrev pub IsPlaceOf : Record → ℕ → ℕ → Type 0
IsPlaceOf (Records.Put part at count) begin place = place ≡ begin + RECORD_HEAD
IsPlaceOf (Records.Marks part at count) begin place = Unit {0}
IsPlaceOf (Records.Erase part at) begin place = Unit {0}
