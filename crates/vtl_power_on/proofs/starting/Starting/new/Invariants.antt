use Rattle.std.proofs.Common.{◌≡◌, None, replicate, vec_len, vec_capacity}
use Rattle.vtl_power_on.proofs.starting.Starting.new.Given as goal

-- nothing waits in the places so far, and there is room for all
abbrev pub invariant-loop : goal.invariant-loop
invariant-loop g l = record {
  so_far : l.waiting.items ≡ replicate l.counter None;
  filled : vec_len l.waiting ≡ l.counter;
  room : vec_capacity l.waiting ≡ 16;
}
