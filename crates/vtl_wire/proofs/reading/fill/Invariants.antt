use Rattle.std.proofs.Common.{◌≡◌, ◌≤◌}
use Rattle.vtl_wire.proofs.FillLemmas.{IsFilled}
use Rattle.vtl_wire.proofs.reading.fill.Given as goal

-- the bytes so far were read, at least one each time, and no read failed
abbrev pub invariant-loop : goal.invariant-loop
invariant-loop g l = record {
  filled : IsFilled (g.R.Read.remaining l.fn.reader) (g.R.Read.remaining l.reader) l.slice l.filled;
  some : l.counter ≤ l.filled;
  same : l.reads ≡ l.fn.reads;
}
