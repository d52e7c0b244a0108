-- ERASE.
use Rattle.std.specs.Prelude.{Bool, not}
use Rattle.volume_core.specs.declared.changes.Change.{Change}
use Rattle.volume_core.specs.declared.changes.Change.TheVariants.{Erase}
use Rattle.volume_core.specs.Stores.{Stores}
use Rattle.positioning.specs.declared.positions.Pos.{Pos}
use Rattle.drive_commands.specs.Relations.{MediumRelation}
use Rattle.drive_commands.specs.StoredFirst.{StoredFirst}
use Rattle.drive_commands.specs.Append.{AppendWork}

-- an ERASE at a position: what stands there and behind goes (SSC-4, ERASE(6))
abbrev pub erase_at : Pos → Change
erase_at position = Erase position.part position.obj

-- The change is made, at the end of data too, and in unbuffered mode it settles. Nothing but it may be pending then
-- (SSC-4, ERASE(6), buffered mode).
abbrev pub Erases : Bool → MediumRelation
Erases buffered old answer made new =
    AppendWork (not buffered) (erase_at old.position) old answer made new × Stores old.medium made new.medium

-- what is pending is stored, and then what stands at the position and behind it is erased
-- (SSC-4, ERASE(6); that it stores first, own)
abbrev pub EraseWork : Bool → MediumRelation
EraseWork buffered = StoredFirst (Erases buffered)
