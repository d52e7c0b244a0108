use Rattle.std.proofs.Common.{refl}
use Rattle.pr_core.proofs.states.PrState.registers.Goals as goal

pub returns : goal.returns
returns c = record {
  answered = refl;
  keys = c.with_key.ensures;
  reservation = refl;
  aptpl = refl;
  generation = c.raised.ensures;
  establishes = c.none.ensures;
}
