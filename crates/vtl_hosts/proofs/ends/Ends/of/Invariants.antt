use Rattle.std.proofs.Common.{◌≡◌, ◌+◌, ◌≤◌, ◌++◌, length, vec_capacity}
use Rattle.std.specs.Vec.Iter.{into_iter_items, into_iter_len}
use Rattle.vtl_hosts.specs.Inner.Idle.{AreIdle, servers_of}
use Rattle.vtl_hosts.proofs.ends.Ends.of.Given as goal

-- the servers so far have their rings, and there are rings and room for the others
abbrev pub invariant-loop-server : goal.invariant-loop-server
invariant-loop-server g l = record {
  can : (goal.iterator-loop-server g).can_next l.server-iterator;
  finite : (goal.iterator-loop-server g).is_finite l.server-iterator;
  counted : into_iter_len l.server-iterator ≡ length (into_iter_items l.server-iterator);
  servers : servers_of l.hosts.items ++ into_iter_items l.server-iterator ≡ l.fn.servers.items;
  rings : length l.rings.items ≡ length (into_iter_items l.server-iterator);
  hosts : length l.hosts.items + length (into_iter_items l.server-iterator) ≤ vec_capacity l.hosts;
  requests : length l.hosts.items + length (into_iter_items l.server-iterator) ≤ vec_capacity l.requests;
  answers : length l.hosts.items + length (into_iter_items l.server-iterator) ≤ vec_capacity l.answers;
  idle : AreIdle l.hosts.items l.requests.items l.answers.items;
}
