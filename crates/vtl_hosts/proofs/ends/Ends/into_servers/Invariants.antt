use Rattle.std.proofs.Common.{◌≡◌, ◌+◌, ◌≤◌, ◌++◌, length, vec_len, vec_capacity}
use Rattle.std.specs.Vec.Iter.{into_iter_items, into_iter_len}
use Rattle.vtl_hosts.specs.Inner.Idle.{servers_of}
use Rattle.vtl_hosts.proofs.ends.Ends.into_servers.Given as goal

-- the servers so far are taken out, and there is room for the others
abbrev pub invariant-loop-host : goal.invariant-loop-host
invariant-loop-host g l = record {
  can : (goal.iterator-loop-host g).can_next l.host-iterator;
  finite : (goal.iterator-loop-host g).is_finite l.host-iterator;
  counted : into_iter_len l.host-iterator ≡ length (into_iter_items l.host-iterator);
  servers : l.servers.items ++ servers_of (into_iter_items l.host-iterator) ≡ servers_of l.fn.self.hosts.items;
  room : vec_len l.servers + length (into_iter_items l.host-iterator) ≤ vec_capacity l.servers;
}
