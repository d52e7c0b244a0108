use Rattle.std.proofs.Common.{◌≡◌, length}
use Rattle.test_hosts.proofs.doubles.all_hosts.Given as goal

-- this is the number of hosts
abbrev pub invariant-loop : goal.invariant-loop
invariant-loop g l = length l.hosts.items ≡ l.counter
