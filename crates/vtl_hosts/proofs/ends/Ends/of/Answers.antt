use Rattle.std.proofs.Common.{rules, arith, ◌≡◌, ◌+◌, ◌++◌, ◌∷◌, [], length, List, ap, sym, ◌∙◌, append_assoc}
use Rattle.std.specs.Vec.Iter.{into_iter_items}
use Rattle.vtl_hosts.specs.Inner.Idle.{servers_of}
use Rattle.vtl_hosts.proofs.IdleLemmas.{host_more, one_longer}
use Rattle.vtl_hosts.proofs.ends.Ends.of.Goals as goal

pub loop-server-preserved : goal.loop-server-preserved
loop-server-preserved g c =
    let inv = c.loop-server.invariant in
    let left = into_iter_items c.next.new.self in
    let old = c.loop-server.hosts.items in
    let new = c.add_host.new.hosts.items in
    let step = c.in-Some.ensures.steps.0 in
    let short = ap length step in
    let more : length new ≡ length old + 1 = host_more old new c.in-Some.server c.add_host.ensures.servers in
    let popped = one_longer _ _ _ (rw c.unwrap-one.ensures at c.pop.ensures.items) in
    record {
      can = tt;
      finite = tt;
      counted = search rules;
      servers =
          ap (λ (l : List g.row.S.Denot). l ++ left) c.add_host.ensures.servers
          ∙ append_assoc (servers_of old) (c.in-Some.server ∷ []) left
          ∙ ap (λ (l : List g.row.S.Denot). servers_of old ++ l) (sym step) ∙ inv.servers;
      rings = omega (arith, inv.rings, short, popped);
      hosts = omega (arith, inv.hosts, short, more, c.add_host.ensures.rooms.0);
      requests = omega (arith, inv.requests, short, more, c.add_host.ensures.rooms.1);
      answers = omega (arith, inv.answers, short, more, c.add_host.ensures.rooms.2);
      idle = c.add_host.ensures.idle;
    }
