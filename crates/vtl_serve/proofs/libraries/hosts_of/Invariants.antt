use Rattle.std.proofs.Common.{◌≡◌, ◌+◌, ◌≤◌, ◌++◌, length, vec_len, vec_capacity}
use Rattle.std.specs.Vec.Iter.{into_iter_items, into_iter_len}
use Rattle.vtl_serve.specs.Libraries.{hosts_of}
use Rattle.vtl_serve.proofs.libraries.hosts_of.Given as goal

-- the hosts so far are those of the seats so far, and there is room for the others
abbrev pub invariant-loop-seat : goal.invariant-loop-seat
invariant-loop-seat g l = record {
  can : (goal.iterator-loop-seat g).can_next l.seat-iterator;
  finite : (goal.iterator-loop-seat g).is_finite l.seat-iterator;
  counted : into_iter_len l.seat-iterator ≡ length (into_iter_items l.seat-iterator);
  hosts : l.hosts.items ++ hosts_of l.library (into_iter_items l.seat-iterator) ≡ hosts_of l.library l.fn.seats.items;
  room : vec_len l.hosts + length (into_iter_items l.seat-iterator) ≤ vec_capacity l.hosts;
}
