use Rattle.std.proofs.Common.{ℕ, ◌≡◌, ◌≤◌, ◌<◌, ◌-◌, length, slice_index_or}
use Rattle.pr_core.proofs.rows.row_of.Given as goal

abbrev pub invariant-loop-number : goal.invariant-loop-number
invariant-loop-number g l =
    goal.F-IsAlwaysCallable g l.entry
    × (length l.row ≡ 64)
    × ((nexus : ℕ) → 1 ≤ nexus → nexus < l.number
    → goal.F-post g l.entry nexus (slice_index_or l.row (nexus - 1) l.fn.nothing))
