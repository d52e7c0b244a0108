use Rattle.std.proofs.Common.{◌≡◌, ◌+◌, ◌≤◌, ◌++◌, length, vec_len, vec_capacity}
use Rattle.std.specs.Vec.Iter.{into_iter_items, into_iter_len}
use Rattle.vtl_serve.specs.Libraries.{seats_of}
use Rattle.vtl_serve.proofs.libraries.seats_in.Given as goal

-- the seats so far are those of the hosts so far, and there is room for the others
abbrev pub invariant-loop-host : goal.invariant-loop-host
invariant-loop-host g l = record {
  can : (goal.iterator-loop-host g).can_next l.host-iterator;
  finite : (goal.iterator-loop-host g).is_finite l.host-iterator;
  counted : into_iter_len l.host-iterator ≡ length (into_iter_items l.host-iterator);
  seats : l.seats.items ++ seats_of (into_iter_items l.host-iterator) ≡ seats_of l.fn.hosts.items;
  room : vec_len l.seats + length (into_iter_items l.host-iterator) ≤ vec_capacity l.seats;
}
