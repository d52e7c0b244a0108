use Rattle.std.proofs.Common.{◌≡◌, vec_len}
use Rattle.std.specs.List.{range_with_len}
use Rattle.test_gates.proofs.opening.hosts.Given as goal

-- the hosts so far
abbrev pub invariant-loop-number : goal.invariant-loop-number
invariant-loop-number l = record {
  hosts : l.hosts.items ≡ range_with_len 1 l.number;
  counted : vec_len l.hosts ≡ l.number;
}
