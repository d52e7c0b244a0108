use Rattle.std.proofs.Common.{◌≡◌, length}
use Rattle.vtl_hosts.proofs.rings.make_rings.Given as goal

-- there are rings for so many hosts
abbrev pub invariant-loop : goal.invariant-loop
invariant-loop l = length l.rings.items ≡ l.counter
