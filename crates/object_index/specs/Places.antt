-- Where the objects of a cartridge lie: an index, as contracts see it.
use Rattle.std.specs.Prelude.{◌<◌, ◌-◌, ◌^◌, ℕ, List, [], ◌∷◌, ◌++◌, length, take, map, replicate, Option, None, Some, slice_get, slice_set}
use Rattle.volume_core.specs.declared.objects.Object.{Object}
use Rattle.volume_core.specs.declared.objects.Object.TheVariants.{Block, Mark}
use Rattle.volume_core.specs.declared.changes.Change.{Change}
use Rattle.volume_core.specs.Volume.{Part, IsPart}
use Rattle.object_index.specs.declared.places.Placed.{Placed}
use Rattle.object_index.specs.declared.places.Placed.TheVariants as Placeds
use Rattle.object_index.specs.declared.places.Run.{Run}
use Rattle.object_index.specs.declared.places.Run.TheVariants as Runs
use Rattle.change_records.specs.declared.records.Record.{Record}
use Rattle.change_records.specs.declared.records.Record.TheVariants as Records
use Rattle.change_records.specs.Records.{change_with, record_length, record_part, record_staying}

-- A partition of an index: its capacity in bytes, its objects from object 0 on, with place and length of each block,
-- and how many runs can be added without memory (own).
pub record PlacedPart : Type 0 where
  pub capacity : ℕ
  pub objects : List Placed
  pub reserved : ℕ

-- the bytes that a read returns, by place and length (own)
abbrev pub Reading : Type 0
Reading = ℕ → ℕ → List ℕ

-- the object that lies there, with the bytes that reads return (own)
abbrev pub filled : Reading → Placed → Object
filled read (Placeds.Block place length) = Block (read place length)
filled read Placeds.Mark = Mark

-- a partition, with the bytes that reads return in its blocks (own)
abbrev pub filled_part : Reading → PlacedPart → Part
filled_part read part = record { capacity = part.capacity; objects = map (filled read) part.objects }

-- the volume of an index, with the bytes that reads return (own)
abbrev pub volume_by : Reading → List PlacedPart → List Part
volume_by read parts = map (filled_part read) parts

-- a reading that returns bytes 00h alone (own)
abbrev pub blank : Reading
blank place length = replicate length 0

-- The volume of an index with each byte of its blocks 00h: its capacities, kinds and lengths. What `Volume` says of
-- counts, kinds, costs and refusals does not depend on the bytes of blocks (own).
abbrev pub outline : List PlacedPart → List Part
outline parts = volume_by blank parts

-- the change of a record whose block lies at that place, with the bytes that reads return (own)
abbrev pub change_by : Reading → Record → ℕ → Change
change_by read item place = change_with item (read place (record_length item))

-- the objects of a partition, if it exists (own)
abbrev pub placed_objects_in : Option PlacedPart → List Placed
placed_objects_in None = []
placed_objects_in (Some part) = part.objects

-- the objects of the partition with this number, none where there is no such partition (own)
abbrev pub placed_objects : List PlacedPart → ℕ → List Placed
placed_objects parts number = placed_objects_in (slice_get parts number)

-- how many runs can be added to a partition without memory, if it exists (own)
abbrev pub reserved_in : Option PlacedPart → ℕ
reserved_in None = 0
reserved_in (Some part) = part.reserved

-- how many runs can be added to the partition with this number without memory, 0 where there is none (own)
abbrev pub reserved_of : List PlacedPart → ℕ → ℕ
reserved_of parts number = reserved_in (slice_get parts number)

-- the objects of a run (own)
abbrev pub objects_of_run : Run → List Placed
objects_of_run (Runs.Block place length) = Placeds.Block place length ∷ []
objects_of_run (Runs.Marks count) = replicate count Placeds.Mark

-- the place of a block is below 2^64 - 1 (own)
abbrev pub IsPlace : Run → Type 0
IsPlace (Runs.Block place length) = place < 2 ^ 64 - 1
IsPlace (Runs.Marks count) = Unit {0}

-- a partition of an index without objects (own)
abbrev pub empty_placed : ℕ → PlacedPart
empty_placed capacity = record { capacity = capacity; objects = []; reserved = 0 }

-- a partition with nothing reserved (own)
abbrev pub unreserved : PlacedPart → PlacedPart
unreserved part = record { capacity = part.capacity; objects = part.objects; reserved = 0 }

-- a partition with a run after its objects, and this many runs reserved (own)
abbrev pub with_run : PlacedPart → Run → ℕ → PlacedPart
with_run part run reserved =
    record { capacity = part.capacity; objects = part.objects ++ objects_of_run run; reserved = reserved }

-- the run may be added to the partition: it stays within the limits of its objects and its capacity (own)
pub record CanAdd (part : PlacedPart) (run : Run) : Type 0 where
  pub place : IsPlace run
  pub fits : IsPart (filled_part blank (with_run part run part.reserved))

-- the objects that a record adds, with its block at that place (own)
abbrev pub placed_by : Record → ℕ → List Placed
placed_by (Records.Put part at length) place = Placeds.Block place length ∷ []
placed_by (Records.Marks part at count) place = replicate count Placeds.Mark
placed_by (Records.Erase part at) place = []

-- how many runs a record adds (own)
abbrev pub runs_of : Record → ℕ
runs_of (Records.Put part at length) = 1
runs_of (Records.Marks part at count) = 1
runs_of (Records.Erase part at) = 0

-- the index with these objects, and this many runs reserved, in a partition, if it exists (own)
abbrev pub with_objects_in : Option PlacedPart → List PlacedPart → ℕ → List Placed → ℕ → List PlacedPart
with_objects_in None parts number objects reserved = parts
with_objects_in (Some part) parts number objects reserved =
    slice_set parts number (record { capacity = part.capacity; objects = objects; reserved = reserved })

-- the index with these objects, and this many runs reserved, in a partition; unchanged where it has no such one (own)
abbrev pub with_objects : List PlacedPart → ℕ → List Placed → ℕ → List PlacedPart
with_objects parts number objects reserved =
    with_objects_in (slice_get parts number) parts number objects reserved

-- the index after a record whose block lies at that place, with this many runs reserved (own)
abbrev pub placed_after : List PlacedPart → Record → ℕ → ℕ → List PlacedPart
placed_after parts item place reserved =
    with_objects parts (record_part item)
    (take (record_staying item) (placed_objects parts (record_part item)) ++ placed_by item place) reserved
