use Rattle.vtl_wire.proofs.ServeLemmas.{served_more, served_none}
use Rattle.vtl_wire.proofs.serving.serve_requests.Goals as goal

pub loop-init : goal.loop-init
loop-init g c =
    rw c.new-frames.ensures.frames
    (served_none g.S.Server.is_taken g.S.Server.answers g.S.Server.lacks c.args.server.now _ _)

pub loop-preserved : goal.loop-preserved
loop-preserved g c =
    served_more g.S.Server.is_taken g.S.Server.answers g.S.Server.lacks c.args.server.now c.loop.server
    c.serve_next.new.server _ _ _ _ _ _ c.loop.frames.frames c.loop.counter c.serve_next.new.frames.frames
    c.loop-test.true c.loop.invariant (rw c.if-not-branch.false at c.in_ok-serve_next.ensures.serves)
