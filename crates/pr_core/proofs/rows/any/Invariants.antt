use Rattle.std.proofs.Common.{ℕ, false, ◌≤◌, ◌<◌}
use Rattle.pr_core.proofs.rows.any.Given as goal

abbrev pub invariant-loop-number : goal.invariant-loop-number
invariant-loop-number g l =
    goal.F-IsAlwaysCallable g l.test
    × ((nexus : ℕ) → 1 ≤ nexus → nexus < l.number → goal.F-post g l.test nexus false)
