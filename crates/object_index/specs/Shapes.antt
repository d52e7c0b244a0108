-- The shape of a volume: its capacities, kinds and lengths, which an index shares with it.
use Rattle.std.specs.Prelude.{◌≡◌, List, length, map, replicate}
use Rattle.volume_core.specs.declared.objects.Object.{Object}
use Rattle.volume_core.specs.declared.objects.Object.TheVariants.{Block, Mark}
use Rattle.volume_core.specs.declared.changes.Change.{Change}
use Rattle.volume_core.specs.Volume.{Part}
use Rattle.change_records.specs.Records.{record_of}
use Rattle.change_records.specs.Records.{outlined}
use Rattle.object_index.specs.Places.{PlacedPart, outline}

-- an object with each byte of a block 00h (own)
abbrev pub blanked : Object → Object
blanked (Block bytes) = Block (replicate (length bytes) 0)
blanked Mark = Mark

-- a partition with each byte of its blocks 00h (own)
abbrev pub shape_of_part : Part → Part
shape_of_part part = record { capacity = part.capacity; objects = map blanked part.objects }

-- a volume with each byte of its blocks 00h: its capacities, kinds and lengths (own)
abbrev pub shape_of : List Part → List Part
shape_of volume = map shape_of_part volume

-- a change with each byte of its block 00h (own)
abbrev pub shape_of_change : Change → Change
shape_of_change change = outlined (record_of change)

-- the index has the capacities, kinds and lengths of the volume (own)
abbrev pub IsIndexOf : List PlacedPart → List Part → Type 0
IsIndexOf parts volume = outline parts ≡ shape_of volume
