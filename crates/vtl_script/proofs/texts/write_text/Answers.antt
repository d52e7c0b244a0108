use Rattle.std.proofs.Common.{◌+◌, arith}
use Rattle.vtl_script.proofs.TextLemmas.{written_more, written_same, written_all, written_part}
use Rattle.vtl_script.proofs.texts.write_text.Goals as goal
use Rattle.vtl_script.proofs.texts.write_text.Goals.{in-Ok, in-Err}

pub returns-then-written-text-clause-ok : goal.returns-then-written-text-clause-ok
returns-then-written-text-clause-ok g c = written_all _ _ c.args.text.now c.loop.written c.if-written-text.true
    c.loop.invariant

pub returns-in-Ok-eq0-clause-err : goal.returns-in-Ok-eq0-clause-err
returns-in-Ok-eq0-clause-err g c =
    written_part _ _ c.args.text.now (c.loop.written + 0)
    (written_more _ _ _ c.args.text.now c.loop.written 0 (omega arith) c.loop.invariant
    (rw (c.in-Ok-eq0.is, c.in-Ok-eq0.field-0-test) at c.write.ensures.bytes))

pub returns-in-Err-2-clause-err : goal.returns-in-Err-2-clause-err
returns-in-Err-2-clause-err g c =
    written_part _ _ c.args.text.now c.loop.written
    (written_same _ _ _ c.args.text.now c.loop.written c.loop.invariant c.in-Err-2.ensures.bytes)

pub loop-preserved : goal.loop-preserved
loop-preserved g c =
    elim c.match-write.branch [
      | in-Ok w ↦ rw w.written-is (written_more _ _ _ c.args.text.now c.loop.written w.in-Ok.count
          w.in-Ok.ensures.bound c.loop.invariant w.in-Ok.ensures.bytes)
      | in-Err w ↦ rw w.written-is (written_same _ _ _ c.args.text.now c.loop.written c.loop.invariant
          w.in-Err.ensures.bytes)
    ]

pub returns-clause-err : goal.returns-clause-err
returns-clause-err g c = written_part _ _ c.args.text.now c.loop.written c.loop.invariant
