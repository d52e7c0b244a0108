-- The copy of the volume of an index: its records, without the bytes of their blocks.
use Rattle.std.specs.Prelude.{◌+◌, ℕ, zero, suc, List, [], ◌∷◌, ◌++◌, drop}
use Rattle.object_index.specs.declared.places.Placed.{Placed}
use Rattle.object_index.specs.declared.places.Placed.TheVariants as Placeds
use Rattle.change_records.specs.declared.records.Record.TheVariants as Records
use Rattle.object_index.specs.Places.{PlacedPart, placed_objects}
use Rattle.change_records.specs.Records.{size_of}
use Rattle.volume_copy.specs.declared.entries.Entry.{Entry}

-- a block at that place, after the first objects of a partition (own)
abbrev pub block_entry : ℕ → ℕ → ℕ → ℕ → Entry
block_entry part at place size = record { item = Records.Put part at size; place = place }

-- `count` filemarks after the first objects of a partition (own)
abbrev pub marks_entry : ℕ → ℕ → ℕ → Entry
marks_entry part at count = record { item = Records.Marks part at count; place = 0 }

-- the same, with no entry for 0 (own)
abbrev pub marks_entries : ℕ → ℕ → ℕ → List Entry
marks_entries part first zero = []
marks_entries part first (suc count) = marks_entry part first (suc count) ∷ []

-- the entries of `marks` filemarks and then these objects, after the first objects of a partition (own)
abbrev pub object_entries : ℕ → ℕ → ℕ → List Placed → List Entry
object_entries part first marks [] = marks_entries part first marks
object_entries part first marks (Placeds.Mark ∷ objects) = object_entries part first (suc marks) objects
object_entries part first marks (Placeds.Block place size ∷ objects) =
    marks_entries part first marks
    ++ (block_entry part (first + marks) place size ∷ object_entries part (first + marks + 1) 0 objects)

-- the entries of these partitions, the first of which has that number (own)
abbrev pub part_entries : ℕ → List PlacedPart → List Entry
part_entries number [] = []
part_entries number (part ∷ parts) = object_entries number 0 0 part.objects ++ part_entries (suc number) parts

-- the entries of the copy (own)
abbrev pub entries_in : List PlacedPart → List Entry
entries_in parts = part_entries 0 parts

-- the entries from an object of a partition on, where no run of filemarks crosses it (own)
abbrev pub entries_from : List PlacedPart → ℕ → ℕ → List Entry
entries_from parts part at =
    object_entries part at 0 (drop at (placed_objects parts part)) ++ part_entries (suc part) (drop (suc part) parts)

-- the bytes of an entry's record, with its block (own)
abbrev pub entry_size : Entry → ℕ
entry_size entry = size_of entry.item
