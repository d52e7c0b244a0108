use Rattle.std.proofs.Common.{false}
use Rattle.vtl_hosts.specs.Inner.Writing.{WritesAll}
use Rattle.vtl_hosts.proofs.writing.write_round.Given as goal

-- the answers so far were written
abbrev pub invariant-loop : goal.invariant-loop
invariant-loop g l =
    WritesAll l.fn.rings (g.W.Write.contents l.fn.writer) false l.rings (g.W.Write.contents l.writer) l.failed
