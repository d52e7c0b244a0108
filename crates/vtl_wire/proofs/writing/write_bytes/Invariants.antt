use Rattle.vtl_wire.proofs.WriteLemmas.{IsOut}
use Rattle.vtl_wire.proofs.writing.write_bytes.Given as goal

-- the bytes so far were written
abbrev pub invariant-loop : goal.invariant-loop
invariant-loop g l = IsOut (g.W.Write.contents l.fn.writer) (g.W.Write.contents l.writer) l.bytes l.written
