use Rattle.std.proofs.Common.{◌≡◌, ◌++◌, map}
use Rattle.std.specs.List.{range_with_len}
use Rattle.vtl_serve.specs.Labels.{entry_at}
use Rattle.vtl_serve.proofs.desks.add_slots.Given as goal

-- the entries of the slots so far are there
abbrev pub invariant-loop-place : goal.invariant-loop-place
invariant-loop-place l =
    l.entries.items ≡ l.fn.entries.items ++ map (entry_at l.labels) (range_with_len 1001 l.place)
