use Rattle.std.proofs.Common.{◌≡◌, length}
use Rattle.vtl_hosts.specs.Inner.Idle.{AreIdle, servers_of}
use Rattle.vtl_hosts.specs.Inner.Serving.{ServesTurns}
use Rattle.vtl_hosts.proofs.turns.serve_turns.Given as goal

-- the turns so far were served, and nothing is in the rings
abbrev pub invariant-loop : goal.invariant-loop
invariant-loop g l = record {
  serves :
      ServesTurns g.S.Host.answers g.G.Desk.is_taken g.G.Desk.answers g.G.Desk.lacks 0
      (record { hosts = servers_of l.fn.ends.hosts.items; desk = l.fn.desk }) (g.I.Read.remaining l.fn.reader)
      (g.W.Write.contents l.fn.writer) l.frames.frames (record { hosts = servers_of l.ends.hosts.items; desk = l.desk })
      (g.I.Read.remaining l.reader) (g.W.Write.contents l.writer);
  idle : AreIdle l.ends.hosts.items l.ends.requests.items l.ends.answers.items;
  all : length l.ends.hosts.items ≡ 64;
}
