-- WRITE FILEMARKS.
use Rattle.std.specs.Prelude.{ℕ, zero, suc, Bool, true, false, not}
use Rattle.volume_core.specs.declared.changes.Change.{Change}
use Rattle.volume_core.specs.declared.changes.Change.TheVariants.{Marks}
use Rattle.positioning.specs.declared.positions.Pos.{Pos}
use Rattle.drive_commands.specs.Relations.{MediumRelation, Idles}
use Rattle.drive_commands.specs.StoredFirst.{StoredFirst}
use Rattle.drive_commands.specs.Append.{AppendWork}

-- filemarks at a position (SSC-4, logical position)
abbrev pub marks_at : Pos → ℕ → Change
marks_at position count = Marks position.part position.obj count

-- Filemarks are put at the position. Unless the answer is immediate, all that is pending is stored; where the number is
-- 0, only that is done (SSC-4, WRITE FILEMARKS(6)).
abbrev pub MarksWork : ℕ → Bool → MediumRelation
MarksWork zero true old answer made new = Idles old answer made new
MarksWork zero false old answer made new = StoredFirst Idles old answer made new
MarksWork (suc n) immediate old answer made new =
    AppendWork (not immediate) (marks_at old.position (suc n)) old answer made new
