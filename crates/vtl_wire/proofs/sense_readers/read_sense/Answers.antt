use Rattle.std.proofs.Common.{sym, ◌∙◌}
use Rattle.vtl_wire.proofs.SenseReadLemmas.{sense_back}
use Rattle.vtl_wire.proofs.TestLemmas.{told_apart}
use Rattle.vtl_wire.proofs.sense_readers.read_sense.Goals as goal

pub returns-then-ne-clause-none : goal.returns-then-ne-clause-none
returns-then-ne-clause-none c = λ sense valid same.
    told_apart c.as_slice.result.now c.args.bytes.now c.ne.result c.ne.ensures c.if-ne.true
    (c.as_slice.ensures ∙ c.bytes.ensures
    ∙ sym (sense_back c.args.bytes.now c.in_ok-sense.sense (sym c.in_ok-sense.ensures.like) sense valid same))
