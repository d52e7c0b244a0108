-- REWIND.
use Rattle.positioning.specs.declared.positions.Pos.{Pos}
use Rattle.drive_commands.specs.State.{Mounted}
use Rattle.drive_commands.specs.Relations.{MediumRelation}
use Rattle.drive_commands.specs.StoredFirst.{StoredFirst, GoesTo}

-- object 0 of the partition (SSC-4, REWIND; that the partition stays, own)
abbrev pub partition_start : Mounted → Pos
partition_start m = record m.position { obj = 0 }

-- what is pending is stored, and the position is object 0 of its partition (SSC-4, REWIND)
abbrev pub RewindWork : MediumRelation
RewindWork = StoredFirst (GoesTo partition_start)
