-- The two disks whose lines are printed (own).
use Rattle.tape_disk.specs.TwoDisks.{TwoDisks}
use Rattle.check_lines.specs.declared.checking.Checked.{Checked}

-- two disks, the first one first (own)
abbrev pub both : {D : Type 0} → D → D → TwoDisks D
both first second = record { first = first; second = second }

-- the disks that lines come with (own)
abbrev pub disks_checked : {D : Type 0} → Checked D → TwoDisks D
disks_checked checked = record { first = checked.first; second = checked.second }
