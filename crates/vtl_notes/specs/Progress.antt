-- What is reported of a reclaim, or of a check, while it works (own).
use Rattle.std.specs.Prelude.{ℕ, ◌/◌, nat_lt, List, ◌++◌, codes, decimal, Option, None, Some, if◌then◌else◌}

-- how many full GiB these bytes are (own)
abbrev pub gib_of : ℕ → ℕ
gib_of bytes = bytes / 1073741824

-- how many GiB are full, where a count of bytes that goes from the first number to the second fills another one (own)
abbrev pub full_gib : ℕ → ℕ → Option ℕ
full_gib before after = if nat_lt (gib_of before) (gib_of after) then Some (gib_of after) else None

-- the line for this many GiB (own)
abbrev pub gib_line : ℕ → List ℕ
gib_line full = decimal full ++ codes " GiB written\n"

-- the line of a check for this many GiB of so many (own)
abbrev pub gib_read_line : ℕ → ℕ → List ℕ
gib_read_line full all = decimal full ++ (codes " of " ++ (decimal all ++ codes " GiB read\n"))
