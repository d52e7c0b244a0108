-- The source of a copy's frames.
use Rattle.std.specs.Prelude.{◌≡◌, ◌⊎◌, ℕ, List, [], ◌∷◌}
use Rattle.vtl_base.specs.declared.faults.DevFault.{DevFault}
use Rattle.tape_disk.specs.Disk.{DiskState}
use Rattle.volume_copy.specs.declared.entries.Entry.{Entry}
use Rattle.volume_copy.specs.Entries.{entries_from}
use Rattle.volume_copy.specs.Spelling.{SpellsFrame}
use Rattle.volume_reclaim.specs.declared.source.Source.{Source}
use Rattle.volume_reclaim.specs.Reading.{LiesOnDisk, OnlyRead, ReadUntilFault}

-- the first frame of these entries was given; or there was none, and one byte was given instead (own)
abbrev pub GivesNext : Type 0 → (List ℕ → ℕ → Type 0) → List Entry → List ℕ → List Entry → Type 0
GivesNext honest lies items body rest =
    ((frame : List Entry) × SpellsFrame honest lies frame rest items body)
    ⊎ ((items ≡ []) × (rest ≡ []) × (body ≡ 0 ∷ []))

-- for the state of a disk
module _ {D : Type 0} (state : D → DiskState) where
  -- the disk that a source reads (own)
  abbrev pub disk_of : Source D → DiskState
  disk_of source = state source.blocks.disk

  -- the entries that the source has not given yet (own)
  abbrev pub items_of : Source D → List Entry
  items_of source = entries_from source.index source.cursor.part source.cursor.at

  -- the source gave that body, and is then the second (own)
  abbrev pub SourceGives : Source D → List ℕ → Source D → Type 0
  SourceGives old body new =
      (new.index ≡ old.index) × OnlyRead (disk_of old) (disk_of new)
      × GivesNext (disk_of old).honest (LiesOnDisk (disk_of old)) (items_of old) body (items_of new)

  -- the source's disk failed, and the source is then the second (own)
  abbrev pub SourceFails : Source D → DevFault → Source D → Type 0
  SourceFails old fault new = ReadUntilFault (disk_of old) fault (disk_of new)
