use Rattle.std.proofs.Common.{◌+◌, arith}
use Rattle.vtl_wire.proofs.WriteLemmas.{out_more, out_same, out_all, out_front}
use Rattle.vtl_wire.proofs.writing.write_bytes.Goals as goal
use Rattle.vtl_wire.proofs.writing.write_bytes.Goals.{in-Ok, in-Err}

pub returns-then-written-bytes-clause-ok : goal.returns-then-written-bytes-clause-ok
returns-then-written-bytes-clause-ok g c = out_all _ _ c.args.bytes.now c.loop.written c.if-written-bytes.true
    c.loop.invariant

pub returns-in-Ok-eq0-clause-err : goal.returns-in-Ok-eq0-clause-err
returns-in-Ok-eq0-clause-err g c =
    out_front _ _ c.args.bytes.now (c.loop.written + 0)
    (out_more _ _ _ c.args.bytes.now c.loop.written 0 (omega arith) c.loop.invariant
    (rw (c.in-Ok-eq0.is, c.in-Ok-eq0.field-0-test) at c.write.ensures.bytes))

pub returns-in-Err-2-clause-err : goal.returns-in-Err-2-clause-err
returns-in-Err-2-clause-err g c =
    out_front _ _ c.args.bytes.now c.loop.written
    (out_same _ _ _ c.args.bytes.now c.loop.written c.loop.invariant c.in-Err-2.ensures.bytes)

pub loop-preserved : goal.loop-preserved
loop-preserved g c =
    elim c.match-write.branch [
      | in-Ok w ↦ rw w.written-is (out_more _ _ _ c.args.bytes.now c.loop.written w.in-Ok.count
          w.in-Ok.ensures.bound c.loop.invariant w.in-Ok.ensures.bytes)
      | in-Err w ↦ rw w.written-is (out_same _ _ _ c.args.bytes.now c.loop.written c.loop.invariant
          w.in-Err.ensures.bytes)
    ]

pub returns-clause-err : goal.returns-clause-err
returns-clause-err g c = out_front _ _ c.args.bytes.now c.loop.written c.loop.invariant
