-- A search among runs of filemarks.
use Rattle.std.specs.Prelude.{◌≡◌, ◌<◌, ◌≤◌, ◌-◌, ℕ, List, slice_get, Option, None, Some}
use Rattle.object_index.specs.declared.halving.Key.{Key}
use Rattle.object_index.specs.declared.halving.Key.TheVariants.{First, Before}
use Rattle.object_index.specs.declared.runs.MarkRun.{MarkRun}

-- the number of a run by which the search goes (own)
abbrev pub key_of : Key → MarkRun → ℕ
key_of First run = run.first
key_of Before run = run.before

-- the last of the first `count` runs, whose number is below the bound; None where count is 0 (own)
abbrev pub IsLastBelow : List MarkRun → Key → ℕ → ℕ → Option MarkRun → Type 0
IsLastBelow runs by bound count None = count ≡ 0
IsLastBelow runs by bound count (Some run) =
    (1 ≤ count) × (slice_get runs (count - 1) ≡ Some run) × (key_of by run < bound)

-- no run, or a run whose number is not below the bound (own)
abbrev pub IsNotBelow : Option MarkRun → Key → ℕ → Type 0
IsNotBelow None by bound = Unit {0}
IsNotBelow (Some run) by bound = bound ≤ key_of by run
