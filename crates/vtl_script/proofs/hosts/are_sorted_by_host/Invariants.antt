use Rattle.std.proofs.Common.{◌≤◌}
use Rattle.std.specs.List.{AllAdjacentBelow}
use Rattle.vtl_script.proofs.hosts.are_sorted_by_host.Given as goal

-- no host so far stands behind a higher one
abbrev pub invariant-loop-i : goal.invariant-loop-i
invariant-loop-i l = AllAdjacentBelow (λ x y. x.host ≤ y.host) l.lines l.i
