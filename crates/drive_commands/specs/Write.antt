-- WRITE.
use Rattle.std.specs.Prelude.{ℕ, List, [], ◌∷◌, Bool, not}
use Rattle.volume_core.specs.declared.changes.Change.{Change}
use Rattle.volume_core.specs.declared.changes.Change.TheVariants.{Put}
use Rattle.positioning.specs.declared.positions.Pos.{Pos}
use Rattle.drive_commands.specs.Relations.{MediumRelation, Idles}
use Rattle.drive_commands.specs.Append.{AppendWork}

-- a block at a position (SSC-4, logical position)
abbrev pub put_at : Pos → List ℕ → Change
put_at position block = Put position.part position.obj block

-- what was sent becomes a block at the position, and in unbuffered mode it settles; of no bytes nothing is done
-- (SSC-4, WRITE(6), buffered mode)
abbrev pub WriteWork : Bool → List ℕ → MediumRelation
WriteWork buffered [] old answer made new = Idles old answer made new
WriteWork buffered (byte ∷ bytes) old answer made new =
    AppendWork (not buffered) (put_at old.position (byte ∷ bytes)) old answer made new
