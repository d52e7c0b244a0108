use Rattle.vtl_wire.proofs.ServeLemmas.{AreServed}
use Rattle.vtl_wire.proofs.serving.serve_requests.Given as goal

-- the requests so far were served, and counted
abbrev pub invariant-loop : goal.invariant-loop
invariant-loop g l =
    AreServed g.S.Server.is_taken g.S.Server.answers g.S.Server.lacks l.fn.server (g.R.Read.remaining l.fn.reader)
    (g.W.Write.contents l.fn.writer) l.server (g.R.Read.remaining l.reader) (g.W.Write.contents l.writer)
    l.frames.frames l.counter
