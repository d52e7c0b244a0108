use Rattle.std.proofs.Common.{arith, ◌∙◌}
use Rattle.vtl_wire.proofs.FillLemmas.{filled_more}
use Rattle.vtl_wire.proofs.reading.fill.Goals as goal

pub loop-preserved : goal.loop-preserved
loop-preserved g c = record {
  filled =
      filled_more _ _ _ c.loop.slice c.read_behind.new.slice c.loop.filled c.in_ok-count.count
      c.loop.invariant.filled c.read_behind.ensures.front c.in_ok-count.ensures.within c.in_ok-count.ensures.taken;
  some = omega (arith, c.loop.invariant.some, c.in_default);
  same = c.in_ok-count.ensures.same ∙ c.loop.invariant.same;
}
