use Rattle.std.proofs.Common.{◌≡◌, None, replicate, vec_len, vec_capacity}
use Rattle.bay_moves.proofs.held.Held.new.Given as goal

-- there is no drive in the places so far, and there is room for all
abbrev pub invariant-loop : goal.invariant-loop
invariant-loop g l = record {
  so_far : l.bays.items ≡ replicate l.counter None;
  filled : vec_len l.bays ≡ l.counter;
  room : vec_capacity l.bays ≡ 16;
}
