-- All filemarks of a partition are among all of its objects.
use Rattle.std.proofs.Common.{◌≡◌, ℕ, List, ap, ◌∙◌}
use Rattle.std.proofs.Math.Seq.{take-length}
use Rattle.volume_core.specs.Volume.{Part, count_of, mark_count, marks_in, marks_upto, objects_of}

-- all objects have as many filemarks as there are
pub marks_of_all : (volume : List Part) (part count : ℕ) → count ≡ count_of volume part
    → marks_upto volume part count ≡ mark_count volume part
marks_of_all volume part count all =
    ap (marks_upto volume part) all ∙ ap marks_in (take-length (objects_of volume part))
