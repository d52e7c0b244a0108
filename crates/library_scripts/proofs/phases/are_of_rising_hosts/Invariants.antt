use Rattle.std.proofs.Common.{◌≤◌}
use Rattle.std.specs.List.{AllAdjacentBelow}
use Rattle.library_scripts.proofs.phases.are_of_rising_hosts.Given as goal

-- no host so far comes after a higher one
abbrev pub invariant-loop-i : goal.invariant-loop-i
invariant-loop-i l = AllAdjacentBelow (λ x y. x.host ≤ y.host) l.lines l.i
